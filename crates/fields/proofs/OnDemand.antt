-- The arrivals that are read one by one from where they begin are those of the file.
-- A caller that holds the byte of the next arrival holds all arrivals that are left: `arrivals_next`, `arrivals_end`.
use Prim.Native.Nat.{ℕ, zero, suc, ◌+◌, ◌*◌, ◌≤◌, ◌<◌}
use mathlib.Core.Path.{◌≡◌, refl, sym, ap, ◌∙◌}
use mathlib.Core.Bool.{Bool, true, false}
use Rattle.std.specs.Prelude.{Option, None, Some}
use mathlib.Core.List.{List, [], ◌∷◌, ◌++◌, append-nil}
use native.Mathlib.Decide.{dec_le, ℕ_discrete}
use native.Mathlib.Omega.{arith}
use lib.Dec.{ltb}
use lib.ListN.{length, drop, length-append, length-drop}
use lib.Seq.{drop-drop, append_snoc}
use borrow.Author.Tests.{eq-eqb, ne_eqb, le-leb, lt-ltb, le-ltb, ltb-false}
use Rattle.paper.specs.declared.Arrival.{Arrival}
use Rattle.paper.specs.declared.Next.{Next}
use Rattle.paper.specs.Fields.{File, Read, tag, body_length, field_length, task_in, arrival_in, slots_in, with_field, wrong_length, field_verdict, ended, empty, at_end, refusal_20, read, is_arrival, arrival_at}
use Rattle.fields.specs.Arrivals.{arrivals_up_to, arrivals_in, arrivals_from}
use Rattle.fields.proofs.Judged.{order_task, passes_going, passes_length, passes_whole, passes_order, passes_task, arrival_whole, none_other}
use Rattle.fields.proofs.Walk.{read_all, read-end, read-good, read-bad}

-- ---- more steps than needed change nothing

arrivals_enough : (n m : ℕ) (bs : List ℕ) → length bs ≤ n → length bs ≤ m → arrivals_up_to n bs ≡ arrivals_up_to m bs
unfolding arrivals_up_to is_arrival
arrivals_enough zero zero bs h k = refl
arrivals_enough zero (suc m) [] h k = refl
arrivals_enough zero (suc m) (b ∷ bs) h k = absurd (omega arith)
arrivals_enough (suc n) zero [] h k = refl
arrivals_enough (suc n) zero (b ∷ bs) h k = absurd (omega arith)
arrivals_enough (suc n) (suc m) [] h k = refl
arrivals_enough (suc n) (suc m) (b ∷ bs) h k =
    let l = length-drop (field_length (b ∷ bs)) (b ∷ bs) in
    rw (arrivals_enough n m (drop (field_length (b ∷ bs)) (b ∷ bs)) (omega arith) (omega arith))

-- ---- the first arrival, and those after it

in_more : (bs : List ℕ) → is_arrival bs ≡ true → arrivals_in bs ≡ arrival_in bs ∷ arrivals_in (drop (field_length bs) bs)
unfolding arrivals_in arrivals_up_to is_arrival
in_more [] e = let z : ◌≡◌ {A = ℕ} 0 1 = cc in absurd (omega arith)
in_more (b ∷ bs) e =
    let l = length-drop (field_length (b ∷ bs)) (b ∷ bs) in
    let rest = drop (field_length (b ∷ bs)) (b ∷ bs) in
    rw e (ap (λ (r : List Arrival). arrival_in (b ∷ bs) ∷ r) (arrivals_enough (length bs) (length rest) rest (omega arith) (omega arith)))

in_none : (bs : List ℕ) → is_arrival bs ≡ false → arrivals_in bs ≡ []
unfolding arrivals_in arrivals_up_to
in_none [] e = refl
in_none (b ∷ bs) e = rw e

module _ (bs : List ℕ) (p : ℕ) where
  next-is : (t : Bool) → is_arrival (drop p bs) ≡ t → (n : Next) → arrival_at bs p ≡ Some n
      → (is_arrival (drop p bs) ≡ true) × (n ≡ record { arrival = arrival_in (drop p bs); after = p + field_length (drop p bs) })
  unfolding arrival_at
  next-is true e n h =
      let m : Some (record { arrival = arrival_in (drop p bs); after = p + field_length (drop p bs) }) ≡ Some n = rw e at h in
      (e, cc)
  next-is false e n h =
      let m : None ≡ Some n = rw e at h in
      cc

  module _ (n : Next) (h : arrival_at bs p ≡ Some n) where
    pub arrivals_next : arrivals_from p bs ≡ n.arrival ∷ arrivals_from n.after bs
    unfolding arrivals_from
    arrivals_next =
        let k = next-is (is_arrival (drop p bs)) refl n h in
        rw (k.1, ← drop-drop (field_length (drop p bs)) p bs) (in_more (drop p bs) k.0)

    pub arrival_inside : (p < n.after) × (n.after ≤ length bs)
    arrival_inside =
        let k = next-is (is_arrival (drop p bs)) refl n h in
        let q = ap (λ (x : Next). x.after) k.1 in
        let l = length-drop p bs in
        (omega (arith, q), omega (arith, q, arrival_whole (drop p bs) k.0))

  next-none : (t : Bool) → is_arrival (drop p bs) ≡ t → arrival_at bs p ≡ None → is_arrival (drop p bs) ≡ false
  unfolding arrival_at
  next-none true e n =
      let m : ◌≡◌ {A = Option Next} (Some (record { arrival = arrival_in (drop p bs); after = p + field_length (drop p bs) })) None = rw e at n in
      cc
  next-none false e n = e

  pub arrivals_end : arrival_at bs p ≡ None → arrivals_from p bs ≡ []
  unfolding arrivals_from
  arrivals_end n = in_none (drop p bs) (next-none (is_arrival (drop p bs)) refl n)

-- ---- a field of each tag, and whether it is an arrival

module _ (bs : List ℕ) where
  is_one : (f : File) (p : ℕ) → (field_verdict f p bs).number ≡ 0 → tag bs ≡ 2 → is_arrival bs ≡ true
  unfolding is_arrival
  is_one f p e t =
      let r : wrong_length 2 (body_length bs) ≡ false = ap (λ (x : ℕ). wrong_length x (body_length bs)) (sym t) ∙ passes_length f p bs e in
      rw (eq-eqb (tag bs) 2 t, r, le-leb (field_length bs) (length bs) (passes_whole f p bs e))

  module _ (f : File) where
    with_task_lem : tag bs ≡ 1 → with_field f bs ≡ record { tasks = f.tasks ++ (task_in bs ∷ []); arrivals = f.arrivals; slots = f.slots }
    unfolding with_field
    with_task_lem e = rw (eq-eqb (tag bs) 1 e)

    with_arrival : tag bs ≡ 2 → with_field f bs ≡ record { tasks = f.tasks; arrivals = f.arrivals ++ (arrival_in bs ∷ []); slots = f.slots }
    unfolding with_field
    with_arrival e = rw (ne_eqb (tag bs) 1 (λ z. omega arith), eq-eqb (tag bs) 2 e)

    with_end : (tag bs ≡ 1 → ⊥) → (tag bs ≡ 2 → ⊥) → with_field f bs ≡ record { tasks = f.tasks; arrivals = f.arrivals; slots = Some (slots_in bs) }
    unfolding with_field
    with_end n m = rw (ne_eqb (tag bs) 1 n, ne_eqb (tag bs) 2 m)

-- ---- a file that is accepted

accepted_field : (f : File) (p : ℕ) (bs : List ℕ) → 0 < length bs → (read_all f p bs).verdict.number ≡ 0 → (field_verdict f p bs).number ≡ 0
accepted_field f p bs h e =
    elim (ℕ_discrete (field_verdict f p bs).number 0) [
      | yes z ↦ z
      | no z ↦ absurd (z (rw (read-bad f p bs h (omega arith)) at e))
    ]

accepted_end : (f : File) (p : ℕ) (b : Bool) → ended f.slots ≡ b → (at_end f p).verdict.number ≡ 0 → (at_end f p).file ≡ f
accepted_end f p true q e = rw q
accepted_end f p false q e = absurd (omega (arith, rw q at e))

module _ (f : File) (p : ℕ) (bs : List ℕ) (e : (read_all f p bs).verdict.number ≡ 0) where
  -- no byte is left
  at_last : length bs ≡ 0 → (read_all f p bs).file ≡ f
  at_last z =
      let r = read-end f p bs z in
      rw r (accepted_end f p (ended f.slots) refl (rw r at e))

  -- tag 3 was read
  after-tag_3 : ended f.slots ≡ true → (read_all f p bs).file ≡ f
  after-tag_3 d =
      elim (ℕ_discrete (length bs) 0) [
        | yes z ↦ at_last z
        | no z ↦
            let g = passes_going f p bs (accepted_field f p bs (omega arith) e) in
            let u : ◌≡◌ {A = ℕ} 0 1 = cc in absurd (omega arith)
      ]

in_empty : (bs : List ℕ) → length bs ≡ 0 → arrivals_in bs ≡ []
unfolding arrivals_in arrivals_up_to
in_empty [] e = refl
in_empty (b ∷ bs) e = absurd (omega arith)

then_none : (xs : List Arrival) (bs : List ℕ) → arrivals_in bs ≡ [] → xs ≡ xs ++ arrivals_in bs
then_none xs bs e = rw e (sym (append-nil xs))

-- what an accepted file says after f, whose arrivals go on with these bytes
abbrev Onward : File → List ℕ → Read → Type 0
Onward f bs r = (r.file.arrivals ≡ f.arrivals ++ arrivals_in bs) × (r.file.tasks ≡ f.tasks)

-- the field is not an arrival, and nothing changes but the slots to run
onward-last : (f g : File) (bs : List ℕ) (r : Read) → r.file ≡ g → g.arrivals ≡ f.arrivals → g.tasks ≡ f.tasks → arrivals_in bs ≡ [] → Onward f bs r
onward-last f g bs r k a t e = (ap (λ (x : File). x.arrivals) k ∙ a ∙ then_none f.arrivals bs e, ap (λ (x : File). x.tasks) k ∙ t)

module _ (f : File) (p : ℕ) (bs : List ℕ) (e : (read_all f p bs).verdict.number ≡ 0) (h : 0 < length bs) where
  passed-field : (field_verdict f p bs).number ≡ 0
  passed-field = accepted_field f p bs h e

  goes_on : read_all f p bs ≡ read_all (with_field f bs) (p + field_length bs) (drop (field_length bs) bs)
  goes_on = read-good f p bs h passed-field

  still : (read_all (with_field f bs) (p + field_length bs) (drop (field_length bs) bs)).verdict.number ≡ 0
  still = rw goes_on at e

  -- tag 3
  onward-end : (tag bs ≡ 1 → ⊥) → (tag bs ≡ 2 → ⊥) → Onward f bs (read_all f p bs)
  onward-end n m =
      let w = with_end bs f n m in
      let d : ended (with_field f bs).slots ≡ true = ap (λ (x : File). ended x.slots) w in
      let k = after-tag_3 (with_field f bs) (p + field_length bs) (drop (field_length bs) bs) still d in
      onward-last f (with_field f bs) bs (read_all f p bs) (ap (λ (r : Read). r.file) goes_on ∙ k) (ap (λ (x : File). x.arrivals) w) (ap (λ (x : File). x.tasks) w)
      (in_none bs (none_other bs m))

  -- an arrival, with what follows it
  onward-arrival : tag bs ≡ 2
      → Onward (with_field f bs) (drop (field_length bs) bs) (read_all (with_field f bs) (p + field_length bs) (drop (field_length bs) bs)) → Onward f bs (read_all f p bs)
  onward-arrival t k =
      let w = with_arrival bs f t in
      let rest = drop (field_length bs) bs in
      let one : (with_field f bs).arrivals ++ arrivals_in rest ≡ f.arrivals ++ arrivals_in bs = rw (w, in_more bs (is_one bs f p passed-field t)) (append_snoc f.arrivals (arrival_in bs) (arrivals_in rest)) in (
        ap (λ (r : Read). r.file.arrivals) goes_on ∙ k.0 ∙ one,
        ap (λ (r : Read). r.file.tasks) goes_on ∙ k.1 ∙ ap (λ (x : File). x.tasks) w,
      )

-- once an arrival was read
after-arrival : (n : ℕ) (f : File) (p : ℕ) (bs : List ℕ) → length bs ≤ n → 0 < length f.arrivals → (read_all f p bs).verdict.number ≡ 0
    → Onward f bs (read_all f p bs)
after-arrival zero f p bs h s e =
    onward-last f f bs (read_all f p bs) (at_last f p bs e (omega arith)) refl refl (in_empty bs (omega arith))
after-arrival (suc n) f p bs h s e =
    elim (ℕ_discrete (length bs) 0) [
      | yes z ↦ onward-last f f bs (read_all f p bs) (at_last f p bs e z) refl refl (in_empty bs z)
      | no z ↦
          let pos : 0 < length bs = omega arith in
          elim (ℕ_discrete (tag bs) 1) [
            | yes t ↦
                let o : ltb 0 (length f.arrivals) ≡ false = sym (order_task f bs t) ∙ passes_order f p bs (passed-field f p bs e pos) in
                absurd (omega (arith, ltb-false 0 (length f.arrivals) o))
            | no t ↦ elim (ℕ_discrete (tag bs) 2) [
              | yes u ↦
                  let w : (with_field f bs).arrivals ≡ f.arrivals ++ (arrival_in bs ∷ []) = ap (λ (x : File). x.arrivals) (with_arrival bs f u) in
                  let l = ap (λ (x : List Arrival). length x) w ∙ length-append f.arrivals (arrival_in bs ∷ []) in
                  let d = length-drop (field_length bs) bs in
                  onward-arrival f p bs e pos u
                  (after-arrival n (with_field f bs) (p + field_length bs) (drop (field_length bs) bs) (omega arith) (omega arith) (still f p bs e pos))
              | no u ↦ onward-end f p bs e pos t u
            ]
          ]
    ]

-- ---- from the first field on: the tasks are nine bytes each, and the arrivals stand after them

module _ (bs : List ℕ) where
  abbrev Reads : Read → Type 0
  Reads r = r.file.arrivals ≡ arrivals_from (9 * length r.file.tasks) bs

  onward-reads : (f : File) (p : ℕ) (r : Read) → p ≡ 9 * length f.tasks → length f.arrivals ≡ 0 → Onward f (drop p bs) r → Reads r
  unfolding arrivals_from
  onward-reads f p r q z k = rw (k.1, ← q) (k.0 ∙ none_before f.arrivals z)
    where
      none_before : (xs : List Arrival) → length xs ≡ 0 → xs ++ arrivals_in (drop p bs) ≡ arrivals_in (drop p bs)
      none_before [] e = refl
      none_before (x ∷ xs) e = absurd (omega arith)

  tasks_first : (n : ℕ) (f : File) (p : ℕ) → length (drop p bs) ≤ n → p ≡ 9 * length f.tasks → length f.arrivals ≡ 0
      → (read_all f p (drop p bs)).verdict.number ≡ 0 → Reads (read_all f p (drop p bs))
  tasks_first zero f p h q z e =
      onward-reads f p (read_all f p (drop p bs)) q z
      (onward-last f f (drop p bs) (read_all f p (drop p bs)) (at_last f p (drop p bs) e (omega arith)) refl refl (in_empty (drop p bs) (omega arith)))
  tasks_first (suc n) f p h q z e =
      let at = drop p bs in
      let r = read_all f p (drop p bs) in
      elim (ℕ_discrete (length (drop p bs)) 0) [
        | yes o ↦ onward-reads f p r q z (onward-last f f at r (at_last f p at e o) refl refl (in_empty at o))
        | no o ↦
            let pos : 0 < length (drop p bs) = omega arith in
            elim (ℕ_discrete (tag (drop p bs)) 1) [
              | yes t ↦
                  let w = with_task_lem at f t in
                  let fl : field_length (drop p bs) ≡ 9 = omega (arith, passes_task f p at (passed-field f p at e pos) t) in
                  let d = length-drop (field_length (drop p bs)) at in
                  let next : drop (field_length (drop p bs)) (drop p bs) ≡ drop (p + field_length (drop p bs)) bs = drop-drop (field_length at) p bs in
                  let l : length (with_field f (drop p bs)).tasks ≡ length f.tasks + 1 = ap (λ (x : File). length x.tasks) w ∙ length-append f.tasks (task_in at ∷ []) in
                  let a : length (with_field f (drop p bs)).arrivals ≡ 0 = ap (λ (x : File). length x.arrivals) w ∙ z in
                  rw (goes_on f p at e pos, next)
                  (tasks_first n (with_field f at) (p + field_length at) (rw (← next) (omega arith)) (omega arith) a (rw next at (still f p at e pos)))
              | no t ↦ elim (ℕ_discrete (tag (drop p bs)) 2) [
                | yes u ↦
                    let w : (with_field f (drop p bs)).arrivals ≡ f.arrivals ++ (arrival_in (drop p bs) ∷ []) = ap (λ (x : File). x.arrivals) (with_arrival at f u) in
                    let l = ap (λ (x : List Arrival). length x) w ∙ length-append f.arrivals (arrival_in at ∷ []) in
                    let more = after-arrival (length (drop (field_length at) at)) (with_field f at) (p + field_length at) (drop (field_length at) at) (omega arith) (omega arith) (still f p at e pos) in
                    onward-reads f p r q z (onward-arrival f p at e pos u more)
                | no u ↦ onward-reads f p r q z (onward-end f p at e pos t u)
              ]
            ]
      ]

  -- a file that is accepted has at most 4,096 bytes, and is read from its first byte
  pub read_is : (read bs).verdict.number ≡ 0 → read bs ≡ read_all empty 0 bs
  unfolding read refusal_20 read_all
  read_is e =
      elim (dec_le (length bs) 4096) [
        | yes h ↦ rw (le-ltb 4096 (length bs) h)
        | no h ↦ absurd (omega (arith, rw (lt-ltb 4096 (length bs) (omega arith)) at e))
      ]

  pub file_arrivals : (read bs).verdict.number ≡ 0 → arrivals_from (9 * length (read bs).file.tasks) bs ≡ (read bs).file.arrivals
  file_arrivals e =
      let r = read_is e in
      sym (rw r (tasks_first (length bs) empty 0 (omega arith) refl refl (rw r at e)))
