-- The walk over the fields: how many steps are allowed does not matter once there are enough.
use Prim.Native.Nat.{ℕ, zero, suc, ◌+◌, ◌≤◌, ◌<◌}
use mathlib.Core.Path.{◌≡◌, refl, sym, ap, ◌∙◌}
use mathlib.Core.List.{List, [], ◌∷◌}
use native.Mathlib.Omega.{arith}
use native.Mathlib.Decide.{ℕ_discrete}
use lib.ListN.{length, drop, length-append, length-drop}
use lib.Seq.{drop-drop}
use borrow.Author.Tests.{eq-eqb, ne_eqb, lt-ltb, le-ltb}
use Rattle.paper.specs.declared.Refusal.{Refusal}
use Rattle.paper.specs.declared.Verdict.{Verdict}
use Rattle.paper.specs.Refusals.{passed}
use Rattle.paper.specs.Refused.{numbered, verdict_of}
use Rattle.paper.specs.Calls.{accepted}
use Rattle.paper.specs.Fields.{File, Read, tag, field_length, task_in, with_field, field_verdict, empty, refused, at_end, read_from, refusal_20, read}
use Rattle.theory.specs.Verdicts.{accepted_is, refused_is}
use Rattle.theory.specs.Said.{said_number, passed_number}
use Rattle.fields.specs.declared.Seen.{Seen}
use Rattle.fields.specs.Seen.{seen_of}
use Rattle.fields.proofs.Judged.{passes_whole, passes_room}

pub enough : (n m : ℕ) (f : File) (p : ℕ) (bs : List ℕ) → length bs ≤ n → length bs ≤ m → read_from n f p bs ≡ read_from m f p bs
unfolding read_from
enough zero zero f p bs h k = refl
enough zero (suc m) f p [] h k = refl
enough zero (suc m) f p (b ∷ bs) h k = absurd (omega arith)
enough (suc n) zero f p [] h k = refl
enough (suc n) zero f p (b ∷ bs) h k = absurd (omega arith)
enough (suc n) (suc m) f p [] h k = refl
enough (suc n) (suc m) f p (b ∷ bs) h k =
    let l = length-drop (field_length (b ∷ bs)) (b ∷ bs) in
    ap (λ (r : Read). accepted (field_verdict f p (b ∷ bs)) r (refused (field_verdict f p (b ∷ bs))))
    (enough n m (with_field f (b ∷ bs)) (p + field_length (b ∷ bs)) (drop (field_length (b ∷ bs)) (b ∷ bs)) (omega arith) (omega arith))

-- all fields of these bytes
unfoldable pub read_all : File → ℕ → List ℕ → Read
read_all f p bs = read_from (length bs) f p bs

pub read-end : (f : File) (p : ℕ) (bs : List ℕ) → length bs ≡ 0 → read_all f p bs ≡ at_end f p
unfolding read_all read_from
read-end f p [] e = refl
read-end f p (b ∷ bs) e = absurd (omega arith)

read_more : (f : File) (p : ℕ) (bs : List ℕ) → 0 < length bs
    → read_all f p bs
    ≡ accepted (field_verdict f p bs) (read_all (with_field f bs) (p + field_length bs) (drop (field_length bs) bs)) (refused (field_verdict f p bs))
unfolding read_all read_from
read_more f p [] h = absurd (omega arith)
read_more f p (b ∷ bs) h =
    let l = length-drop (field_length (b ∷ bs)) (b ∷ bs) in
    let rest = drop (field_length (b ∷ bs)) (b ∷ bs) in
    ap (λ (r : Read). accepted (field_verdict f p (b ∷ bs)) r (refused (field_verdict f p (b ∷ bs))))
    (enough (length bs) (length rest) (with_field f (b ∷ bs)) (p + field_length (b ∷ bs)) rest (omega arith) (omega arith))

module _ (f : File) (p : ℕ) (bs : List ℕ) (h : 0 < length bs) where
  pub read-good : (field_verdict f p bs).number ≡ 0 → read_all f p bs ≡ read_all (with_field f bs) (p + field_length bs) (drop (field_length bs) bs)
  read-good e = read_more f p bs h ∙ accepted_is (field_verdict f p bs) _ _ e

  pub read-bad : 0 < (field_verdict f p bs).number → read_all f p bs ≡ refused (field_verdict f p bs)
  read-bad g = read_more f p bs h ∙ refused_is (field_verdict f p bs) _ _ g

-- ---- a whole file

module _ (bs : List ℕ) where
  pub read_long : 4096 < length bs → read bs ≡ refused (numbered 20 0)
  unfolding read refusal_20
  read_long h = rw (lt-ltb 4096 (length bs) h)

  pub read_short : length bs ≤ 4096 → read bs ≡ read_all empty 0 bs
  unfolding read refusal_20 read_all
  read_short h = rw (le-ltb 4096 (length bs) h)

-- ---- where the reader stands: it keeps what it asks of a file, and the fields that are left read on from that file

pub record Walked (bs : List ℕ) (p : ℕ) (s : Seen) : Type 0 where
  pub file : File
  pub is : s ≡ seen_of file
  pub inside : p ≤ length bs
  pub few : length file.tasks ≤ 16
  pub same : read_all file p (drop p bs) ≡ read_all empty 0 bs

pub walk_start : (bs : List ℕ) (s : Seen) → s ≡ seen_of empty → Walked bs 0 s
walk_start bs s e = record { file = empty; is = e; inside = omega arith; few = omega arith; same = refl }

few_more : (f : File) (bs : List ℕ) → length f.tasks ≤ 16 → (tag bs ≡ 1 → length f.tasks < 16) → length (with_field f bs).tasks ≤ 16
unfolding with_field
few_more f bs h r =
    elim (ℕ_discrete (tag bs) 1) [
      | yes e ↦ rw (eq-eqb (tag bs) 1 e) (omega (arith, r e, length-append f.tasks (task_in bs ∷ [])))
      | no n ↦ elim (ℕ_discrete (tag bs) 2) [
        | yes e ↦ rw (ne_eqb (tag bs) 1 n, eq-eqb (tag bs) 2 e) h
        | no m ↦ rw (ne_eqb (tag bs) 1 n, ne_eqb (tag bs) 2 m) h
      ]
    ]

module _ (bs : List ℕ) (p : ℕ) (s : Seen) (w : Walked bs p s) where
  pub walk_end : length bs ≤ p → read_all empty 0 bs ≡ at_end w.file p
  walk_end h = sym w.same ∙ read-end w.file p (drop p bs) (length-drop p bs ∙ omega arith)

  module _ (h : p < length bs) (part : List ℕ) (is : part ≡ drop p bs) where
    some_left : 0 < length part
    some_left = rw is (omega (arith, length-drop p bs))

    from_part : read_all w.file p part ≡ read_all empty 0 bs
    from_part = rw is w.same

    pub walk_stop : (r : Refusal) → field_verdict w.file p part ≡ verdict_of r → read_all empty 0 bs ≡ refused (verdict_of r)
    walk_stop r e = sym from_part ∙ read-bad w.file p part some_left (said_number r e) ∙ ap (λ (v : Verdict). refused v) e

    module _ (g : field_verdict w.file p part ≡ passed) where
      no_number : (field_verdict w.file p part).number ≡ 0
      no_number = passed_number g

      pub walk_fits : p + field_length part ≤ length bs
      walk_fits = omega (arith, passes_whole w.file p part no_number, ap (λ (x : List ℕ). length x) is, length-drop p bs)

      pub walk_more : (s' : Seen) → s' ≡ seen_of (with_field w.file part) → Walked bs (p + field_length part) s'
      walk_more s' e =
          let rest : drop (field_length part) part ≡ drop (p + field_length part) bs = ap (λ (x : List ℕ). drop (field_length part) x) is ∙ drop-drop (field_length part) p bs in
          record {
            file = with_field w.file part;
            is = e;
            inside = walk_fits;
            few = few_more w.file part w.few (passes_room w.file p part no_number);
            same = rw (← rest) (sym (read-good w.file p part some_left no_number) ∙ from_part);
          }
