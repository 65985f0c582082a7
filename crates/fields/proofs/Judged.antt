-- A field's verdict, test by test: what each answer of the code comes to, and what a field that passes is known to be.
use Rattle.std.specs.Prelude.{Result, Ok, Err, IsErrAnd}
use Prim.Native.Nat.{ℕ, suc, ◌≤◌, ◌<◌}
use mathlib.Core.Path.{◌≡◌, refl, sym, ap, ◌∙◌}
use mathlib.Core.Bool.{Bool, true, false, not, ◌&&◌}
use mathlib.Core.List.{List, ◌∷◌, ◌++◌}
use native.Mathlib.Omega.{arith}
use lib.Dec.{leb, ltb, eqb}
use lib.ListN.{length}
use borrow.Author.Tests.{eq-eqb, ne_eqb, eqb-true, ltb-false, le-ltb, leb-true, leb-false, le-leb, not-false, not-true}
use Rattle.paper.specs.declared.Verdict.{Verdict}
use Rattle.paper.specs.Refusals.{passed}
use Rattle.paper.specs.declared.Refusal.{Refusal}
use Rattle.paper.specs.Refused.{numbered, verdict_of}
use Rattle.theory.specs.Said.{pass_first, said_front, pass_front, said_number, passed_number}
use Rattle.paper.specs.Calls.{first_given}
use Rattle.paper.specs.Fields.{File, tag, body_length, field_length, arrival_in, slots_in, last_slot, wrong_length, wrong_order, placed, ended, field_verdict, is_arrival}
use Rattle.theory.specs.Verdicts.{AllPassed, none_given}
use Rattle.fields.specs.Shape.{many_tasks, shape_refusals, order_refusals, in_two_parts}

both : (a b : Bool) → a && b ≡ true → (a ≡ true) × (b ≡ true)
both true b e = (refl, e)
both false b e = let z : ◌≡◌ {A = ℕ} 0 1 = cc in absurd (omega arith)

-- ---- a refusal that is handed on

pub handed : {A : Type 0} (Q : Result A Refusal → Type 0) (r : Refusal) (res : Result A Refusal) → IsErrAnd res (λ e. e ≡ r) → Q (Err r) → Q res
handed Q r (Ok a) h q = absurd h
handed Q r (Err e) h q = rw h q

-- ---- a refusal that is placed

not_placed : (b : Bool) (n p : ℕ) → (placed b (suc n) p).number ≡ 0 → b ≡ false
not_placed true n p e = absurd (omega arith)
not_placed false n p e = refl

-- ---- what the fields before it say of a field, by its tag

module _ (f : File) (p : ℕ) (bs : List ℕ) where
  abbrev order : Verdict
  order = first_given (order_refusals f p bs)

  module _ (t : tag bs ≡ 1) where
    pub task_late : ltb 0 (length f.arrivals) ≡ true → order ≡ numbered 19 p
    unfolding first_given wrong_order
    task_late a = rw (t, a)

    module _ (a : ltb 0 (length f.arrivals) ≡ false) where
      pub task_many : leb 16 (length f.tasks) ≡ true → order ≡ numbered 1 p
      unfolding first_given wrong_order
      task_many m = rw (t, a, m)

      pub task_good : leb 16 (length f.tasks) ≡ false → order ≡ passed
      unfolding first_given wrong_order
      task_good m = rw (t, a, m)

  -- an arrival or tag 3 before any task
  pub too_early : (tag bs ≡ 1 → ⊥) → eqb (length f.tasks) 0 ≡ true → order ≡ numbered 19 p
  unfolding first_given wrong_order
  too_early n z = rw (ne_eqb (tag bs) 1 n, z)

  module _ (t : tag bs ≡ 2) (some_task : eqb (length f.tasks) 0 ≡ false) where
    pub slot_falls : ltb (arrival_in bs).slot.0 (last_slot 0 f.arrivals) ≡ true → order ≡ numbered 19 p
    unfolding first_given wrong_order
    slot_falls l = rw (t, some_task, l)

    pub arrival_good : ltb (arrival_in bs).slot.0 (last_slot 0 f.arrivals) ≡ false → order ≡ passed
    unfolding first_given wrong_order
    arrival_good l = rw (t, some_task, l)

  module _ (t : tag bs ≡ 3) (some_task : eqb (length f.tasks) 0 ≡ false) where
    pub run_long : ltb 100000 (slots_in bs) ≡ true → order ≡ numbered 21 p
    unfolding first_given wrong_order
    run_long l = rw (t, some_task, l)

    pub slots_good : ltb 100000 (slots_in bs) ≡ false → order ≡ passed
    unfolding first_given wrong_order
    slots_good l = rw (t, some_task, l)

-- ---- the parts of a field's verdict

module _ (f : File) (p : ℕ) (bs : List ℕ) where
  pub after_end : ended f.slots ≡ true → field_verdict f p bs ≡ numbered 19 p
  unfolding field_verdict first_given
  after_end e = rw e

  module _ (going : ended f.slots ≡ false) where
    going_on : field_verdict f p bs ≡ first_given (shape_refusals p bs ++ order_refusals f p bs)
    going_on = in_two_parts f p bs ∙ pass_first (shape_refusals p bs ++ order_refusals f p bs) (rw going)

    pub by_shape : (r : Refusal) → first_given (shape_refusals p bs) ≡ verdict_of r → field_verdict f p bs ≡ verdict_of r
    by_shape r e = going_on ∙ said_front (shape_refusals p bs) (order_refusals f p bs) r e

    pub by_order : first_given (shape_refusals p bs) ≡ passed → field_verdict f p bs ≡ first_given (order_refusals f p bs)
    by_order e = going_on ∙ pass_front (shape_refusals p bs) (order_refusals f p bs) e

-- ---- a field in the wrong order, by its tag

module _ (f : File) (bs : List ℕ) where
  pub order_task : tag bs ≡ 1 → wrong_order f bs ≡ ltb 0 (length f.arrivals)
  unfolding wrong_order
  order_task e = rw e

-- ---- a field that passes: none of its refusals is given

module _ (f : File) (p : ℕ) (bs : List ℕ) (e : (field_verdict f p bs).number ≡ 0) where
  each_passes : AllPassed (placed (ended f.slots) 19 p ∷ (shape_refusals p bs ++ order_refusals f p bs))
  each_passes = none_given (placed (ended f.slots) 19 p ∷ (shape_refusals p bs ++ order_refusals f p bs)) (ap (λ (v : Verdict). v.number) (sym (in_two_parts f p bs)) ∙ e)

  pub passes_going : ended f.slots ≡ false
  passes_going = not_placed (ended f.slots) 18 p each_passes.0

  pub passes_length : wrong_length (tag bs) (body_length bs) ≡ false
  passes_length = not_placed (wrong_length (tag bs) (body_length bs)) 17 p each_passes.1.1.1.0

  pub passes_whole : field_length bs ≤ length bs
  passes_whole = ltb-false (length bs) (field_length bs) (not_placed (ltb (length bs) (field_length bs)) 15 p each_passes.1.1.1.1.0)

  pub passes_order : wrong_order f bs ≡ false
  passes_order = not_placed (wrong_order f bs) 18 p each_passes.1.1.1.1.1.0

  pub passes_room : tag bs ≡ 1 → length f.tasks < 16
  passes_room t =
      let m = not_placed (many_tasks (length f.tasks) bs) 0 p each_passes.1.1.1.1.1.1.0 in
      leb-false 16 (length f.tasks) (rw (eq-eqb (tag bs) 1 t) at m)

  pub passes_task : tag bs ≡ 1 → body_length bs ≡ 6
  unfolding wrong_length
  passes_task t =
      let right : wrong_length 1 (body_length bs) ≡ false = ap (λ (x : ℕ). wrong_length x (body_length bs)) (sym t) ∙ passes_length in
      eqb-true (body_length bs) 6 (not-false (eqb (body_length bs) 6) right)

-- ---- an arrival

pub arrival_whole : (bs : List ℕ) → is_arrival bs ≡ true → field_length bs ≤ length bs
unfolding is_arrival
arrival_whole bs e =
    let a = both (eqb (tag bs) 2) (not (wrong_length 2 (body_length bs)) && leb (field_length bs) (length bs)) e in
    leb-true (field_length bs) (length bs) (both (not (wrong_length 2 (body_length bs))) (leb (field_length bs) (length bs)) a.1).1

-- an arrival that stands whole is refused by none of its bytes
whole_passes : (p : ℕ) (bs : List ℕ) → is_arrival bs ≡ true → first_given (shape_refusals p bs) ≡ passed
unfolding first_given is_arrival
whole_passes p bs e =
    let a = both (eqb (tag bs) 2) (not (wrong_length 2 (body_length bs)) && leb (field_length bs) (length bs)) e in
    let t : tag bs ≡ 2 = eqb-true (tag bs) 2 a.0 in
    let b = both (not (wrong_length 2 (body_length bs))) (leb (field_length bs) (length bs)) a.1 in
    let long : wrong_length 2 (body_length bs) ≡ false = not-true (wrong_length 2 (body_length bs)) b.0 in
    let whole = leb-true (field_length bs) (length bs) b.1 in
    rw (le-ltb (length bs) 3 (omega arith), t, long, le-ltb (length bs) (field_length bs) whole)

module _ (p : ℕ) (bs : List ℕ) where
  pub found : first_given (shape_refusals p bs) ≡ passed → tag bs ≡ 2 → is_arrival bs ≡ true
  unfolding is_arrival
  found e t =
      let each = none_given (shape_refusals p bs) (passed_number e) in
      let right : wrong_length 2 (body_length bs) ≡ false =
      ap (λ (x : ℕ). wrong_length x (body_length bs)) (sym t) ∙ not_placed (wrong_length (tag bs) (body_length bs)) 17 p each.1.1.0 in
      let whole = ltb-false (length bs) (field_length bs) (not_placed (ltb (length bs) (field_length bs)) 15 p each.1.1.1.0) in
      rw (t, right, le-leb (field_length bs) (length bs) whole)

  pub none_refused : (r : Refusal) → first_given (shape_refusals p bs) ≡ verdict_of r → is_arrival bs ≡ false
  none_refused r e = by (is_arrival bs) refl
    where
      by : (b : Bool) → is_arrival bs ≡ b → is_arrival bs ≡ false
      by true q = absurd (omega (arith, said_number r e, passed_number (whole_passes p bs q)))
      by false q = q

pub none_other : (bs : List ℕ) → (tag bs ≡ 2 → ⊥) → is_arrival bs ≡ false
unfolding is_arrival
none_other bs n = rw (ne_eqb (tag bs) 2 n)
