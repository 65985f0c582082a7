-- What a call leaves, for every input: a refused call gives the old state, and every other number of its answer is 0; an accepted one
-- has place 0. An admission's vectors are those of the moving vectors' call, and its number says whether they were filled.
use Rattle.std.specs.Prelude.{ℕ, ◌≤◌, ◌≡◌, ◌≢◌, ◌⊎◌, Bool, true, ◌&&◌, leb}
use Rattle.std.proofs.Math.Path.{refl, ap}
use Rattle.std.proofs.Common.{inl, inr, arith, eq-eqb, ne_eqb, leb-true}
use Rattle.std.proofs.Math.Logic.{⊎_elim}
use mathlib.Core.List.{List, [], ◌∷◌, ◌++◌}
use Rattle.std.proofs.Math.Decide.{ℕ_discrete}
use Rattle.paper.specs.declared.Table.{Table}
use Rattle.paper.specs.declared.State.{State}
use Rattle.paper.specs.declared.Latest.{Latest}
use Rattle.paper.specs.declared.Who.TheVariants.{Idle}
use Rattle.paper.specs.declared.Verdict.{Verdict}
use Rattle.paper.specs.Places.{K}
use Rattle.paper.specs.Vectors.{D}
use Rattle.paper.specs.View.{view_of, tasks_of}
use Rattle.paper.specs.Idle.{promise_of}
use Rattle.paper.specs.Refusals.{refusal_1, refusal_2, refusal_7, refusal_8_slot, refusal_15}
use Rattle.paper.specs.Calls.{first_given, filled, y_of, one_to_three, one_to_six, one_to_eight, nine_to_fourteen, all_zero, power_on_verdict, power_on_call}
use Rattle.paper.specs.Calls.{table_verdict, table_call, moving_verdict, moving_call, admission_verdict, admission_call, slot_verdict, slot_call, slot_numbers}
use Rattle.theory.specs.Verdicts.{and_true_both, given_first, passed_first, passed-all, none_given, all_none, passed-front, given_front}
use Rattle.theory.specs.OwnNumber.{Own, own_1, own_2, own_3, own_4, own_5, own_6, own_7, own_8, own_9_work, own_9_tallies, own_9_promise, own_10}
use Rattle.theory.specs.OwnNumber.{own_11, own_12, own_13, own_14}

-- ---- a refused call

-- the slot: nobody ran, the ready word is 0, and the state is as before
pub record SlotRefused (t : Table) (s : State) : Type 0 where
  pub nobody : (slot_call t s).who ≡ Idle
  pub numbers : slot_numbers t s ≡ 0 ∷ []
  pub no_word : (slot_call t s).ready ≡ 0
  pub same-state : (slot_call t s).state ≡ s

-- A slot that is refused, by whatever number, leaves the state.
pub slot_leaves : (t : Table) (s : State) → (slot_call t s).number ≢ 0 → SlotRefused t s
unfolding slot_call slot_numbers
slot_leaves t s n =
    let e = ne_eqb (slot_verdict t s).number 0 n in
    record { nobody = rw e; numbers = rw e; no_word = rw e; same-state = rw e }

-- the admission: no promise, and the state is as before
pub record AdmissionRefused (t : Table) (s : State) (w : ℕ) (latest : Latest) (k d y : List ℕ) : Type 0 where
  pub no_promise : (admission_call t s w latest k d y).answer.promise.0 ≡ 0
  pub same-state : (admission_call t s w latest k d y).answer.state ≡ s

-- An admission that is refused, by whatever number, leaves the state.
pub admission_leaves : (t : Table) (s : State) (w : ℕ) (latest : Latest) (k d y : List ℕ)
    → (admission_call t s w latest k d y).answer.number ≢ 0 → AdmissionRefused t s w latest k d y
unfolding admission_call
admission_leaves t s w latest k d y n =
    let e = ne_eqb (admission_verdict t s w latest k d y).number 0 n in
    record { no_promise = rw e; same-state = rw e }

-- Power-on that is refused gives the state all zero: it is handed no state.
pub power_on_zero : (t : Table) → (power_on_call t).number ≢ 0 → (power_on_call t).state ≡ all_zero
unfolding power_on_call
power_on_zero t n = rw (ne_eqb (power_on_verdict t).number 0 n)

-- the table check: no window, no places, F 0, and both vectors as they were lent
pub record TableRefused (t : Table) (k d : List ℕ) : Type 0 where
  pub no_window : (table_call t k d).answer.window ≡ 0
  pub no_places : (table_call t k d).answer.places ≡ 0
  pub no_idle : (table_call t k d).answer.idle ≡ 0
  pub same-k : (table_call t k d).k ≡ k
  pub same-d : (table_call t k d).d ≡ d

-- A table check that is refused, by whatever number, touches no vector.
pub table_leaves : (t : Table) (k d : List ℕ) → (table_call t k d).answer.number ≢ 0 → TableRefused t k d
unfolding table_call
table_leaves t k d n =
    let e = ne_eqb (table_verdict t k d).number 0 n in
    record { no_window = rw e; no_places = rw e; no_idle = rw e; same-k = rw e; same-d = rw e }

-- the moving vectors: no places, and all three vectors as they were lent
pub record MovingRefused (t : Table) (s : State) (k d y : List ℕ) : Type 0 where
  pub no_places : (moving_call t s k d y).answer.places ≡ 0
  pub same-k : (moving_call t s k d y).k ≡ k
  pub same-d : (moving_call t s k d y).d ≡ d
  pub same-y : (moving_call t s k d y).y ≡ y

-- A call for the moving vectors that is refused, by whatever number, touches no vector.
pub moving_leaves : (t : Table) (s : State) (k d y : List ℕ) → (moving_call t s k d y).answer.number ≢ 0 → MovingRefused t s k d y
unfolding moving_call
moving_leaves t s k d y n =
    let e = ne_eqb (moving_verdict t s k d y).number 0 n in
    record { no_places = rw e; same-k = rw e; same-d = rw e; same-y = rw e }

-- ---- "Acceptance has number and place 0."

no_place : (rs : List Verdict) → (first_given rs).number ≡ 0 → (first_given rs).place ≡ 0
no_place rs e = ap (λ (r : Verdict). r.place) (all_none rs (none_given rs e))

module _ (t : Table) where
  -- Power-on that is accepted has place 0.
  pub power_on_place : (power_on_call t).number ≡ 0 → (power_on_call t).place ≡ 0
  unfolding power_on_call power_on_verdict
  power_on_place e = no_place (refusal_1 t.count ∷ refusal_2 (tasks_of t) ∷ []) e

  -- A table check that is accepted has place 0.
  pub table_place : (k d : List ℕ) → (table_call t k d).answer.number ≡ 0 → (table_call t k d).answer.place ≡ 0
  unfolding table_call table_verdict
  table_place k d e = no_place (one_to_six t (k ∷ d ∷ [])) e

  module _ (s : State) where
    -- A slot that is accepted has place 0.
    pub slot_place : (slot_call t s).number ≡ 0 → (slot_call t s).place ≡ 0
    unfolding slot_call slot_verdict
    slot_place e = no_place _ e

    -- Moving vectors that are given have place 0.
    pub moving_place : (k d y : List ℕ) → (moving_call t s k d y).answer.number ≡ 0 → (moving_call t s k d y).answer.place ≡ 0
    unfolding moving_call moving_verdict
    moving_place k d y e = no_place (one_to_eight t s (k ∷ d ∷ y ∷ [])) e

    -- An admission that is accepted has place 0.
    pub admission_place : (w : ℕ) (latest : Latest) (k d y : List ℕ) → (admission_call t s w latest k d y).answer.number ≡ 0
        → (admission_call t s w latest k d y).answer.place ≡ 0
    unfolding admission_call admission_verdict
    admission_place w latest k d y e = no_place _ e

-- ---- an admission's vectors

module _ (t : Table) (s : State) (w : ℕ) (latest : Latest) (k d y : List ℕ) where
  -- They are those of the moving vectors' call on the same inputs: the work and the latest finish do not enter.
  pub same-vectors : ((admission_call t s w latest k d y).k ≡ (moving_call t s k d y).k)
      × ((admission_call t s w latest k d y).d ≡ (moving_call t s k d y).d)
      × ((admission_call t s w latest k d y).y ≡ (moving_call t s k d y).y)
  unfolding admission_call moving_call
  same-vectors = (refl, refl, refl)

-- ---- "Refusals asked before 9 touch no vector. From 9 in a call's order on, and on acceptance, K, D and Y hold this paper's numbers"

-- the refusals of a list have these numbers of their own
abbrev AllOwn : List ℕ → List Verdict → Type 0
AllOwn [] [] = Unit {0}
AllOwn [] (r ∷ rs) = ⊥
AllOwn (n ∷ ns) [] = ⊥
AllOwn (n ∷ ns) (r ∷ rs) = Own n r.number × AllOwn ns rs

-- they all lie from m to n
abbrev within : ℕ → ℕ → List ℕ → Bool
within m n [] = true
within m n (a ∷ more) = (leb m a && leb a n) && within m n more

-- a number that is 0, or from m to n
abbrev Between : ℕ → ℕ → ℕ → Type 0
Between m n k = (k ≡ 0) ⊎ ((m ≤ k) × (k ≤ n))

own_between : (m n a : ℕ) {k : ℕ} → leb m a && leb a n ≡ true → Own a k → Between m n k
own_between m n a h (inl z) = inl z
own_between m n a h (inr z) =
    let b = and_true_both (leb m a) (leb a n) h in
    inr (omega (arith, leb-true m a b.0), omega (arith, leb-true a n b.1))

first-between : (m n : ℕ) (ns : List ℕ) (rs : List Verdict) → within m n ns ≡ true → AllOwn ns rs → Between m n (first_given rs).number
first-between m n [] [] h a = inl (ap (λ (r : Verdict). r.number) passed-all)
first-between m n [] (r ∷ rs) h a = absurd a
first-between m n (x ∷ ns) [] h a = absurd a
first-between m n (x ∷ ns) (r ∷ rs) h a =
    let b = and_true_both (leb m x && leb x n) (within m n ns) h in
    elim (ℕ_discrete r.number 0) [
      | yes z ↦ rw (passed_first r rs z) (first-between m n ns rs b.1 a.1)
      | no z ↦ rw (given_first r rs (omega arith)) (own_between m n x b.0 a.0)
    ]

module _ (t : Table) (s : State) (w : ℕ) (latest : Latest) (k d y : List ℕ) where
  abbrev early : Verdict
  early = moving_verdict t s k d y

  abbrev late : Verdict
  late = first_given (nine_to_fourteen (tasks_of t) (view_of t.count s) w latest)

  one_to_eight_lem : Between 1 8 early.number
  unfolding moving_verdict
  one_to_eight_lem =
      let ts = tasks_of t in
      let v = view_of t.count s in
      let lent = k ∷ d ∷ y ∷ [] in
      first-between 1 8 (1 ∷ 2 ∷ 3 ∷ 4 ∷ 5 ∷ 6 ∷ 7 ∷ 8 ∷ []) (one_to_eight t s lent) refl
      (own_1 t.count, (own_2 ts, (own_3 ts, (own_4 ts, (own_5 ts lent, (own_6 ts, (own_7 ts s, (own_8 ts v, tt))))))))

  nine_to_fourteen_lem : Between 9 14 late.number
  nine_to_fourteen_lem =
      let ts = tasks_of t in
      let v = view_of t.count s in
      let p = promise_of ts v w in
      first-between 9 14 (9 ∷ 9 ∷ 9 ∷ 10 ∷ 11 ∷ 12 ∷ 13 ∷ 14 ∷ []) (nine_to_fourteen ts v w latest) refl
      (own_9_work ts v, (own_9_tallies ts v, (own_9_promise ts v, (own_10 w, (own_11 v, (own_12 ts, (own_13 p, (own_14 p latest, tt))))))))

  number-late : early.number ≡ 0 → (admission_call t s w latest k d y).answer.number ≡ late.number
  unfolding admission_call admission_verdict moving_verdict
  number-late e =
      ap (λ (r : Verdict). r.number)
      (passed-front (one_to_eight t s (k ∷ d ∷ y ∷ [])) (nine_to_fourteen (tasks_of t) (view_of t.count s) w latest) e)

  number-early : early.number ≢ 0 → (admission_call t s w latest k d y).answer.number ≡ early.number
  unfolding admission_call admission_verdict moving_verdict
  number-early n =
      ap (λ (r : Verdict). r.number)
      (given_front (one_to_eight t s (k ∷ d ∷ y ∷ [])) (nine_to_fourteen (tasks_of t) (view_of t.count s) w latest) (omega arith))

  -- An admission that is refused by 1 to 8 leaves all three vectors as they were lent.
  pub vectors_untouched : 1 ≤ (admission_call t s w latest k d y).answer.number → (admission_call t s w latest k d y).answer.number ≤ 8
      → ((admission_call t s w latest k d y).k ≡ k) × ((admission_call t s w latest k d y).d ≡ d) × ((admission_call t s w latest k d y).y ≡ y)
  unfolding admission_call
  vectors_untouched h l = elim (ℕ_discrete early.number 0) [
    | yes z ↦ absurd (⊎_elim (λ a. omega (arith, number-late z)) (λ a. omega (arith, number-late z)) nine_to_fourteen_lem)
    | no z ↦ rw (ne_eqb early.number 0 z) (refl, refl, refl)
  ]

  -- An admission that is accepted, or refused by 9 to 14, has K, D and Y of the state given in the first places, and the rest as lent.
  pub vectors_filled : ((admission_call t s w latest k d y).answer.number ≡ 0) ⊎ (9 ≤ (admission_call t s w latest k d y).answer.number)
      → ((admission_call t s w latest k d y).k ≡ filled (K (tasks_of t)) k)
      × ((admission_call t s w latest k d y).d ≡ filled (D (tasks_of t)) d)
      × ((admission_call t s w latest k d y).y ≡ filled (y_of (tasks_of t) (view_of t.count s)) y)
  unfolding admission_call
  vectors_filled h = elim (ℕ_discrete early.number 0) [
    | yes z ↦ rw (eq-eqb early.number 0 z) (refl, refl, refl)
    | no z ↦ absurd (⊎_elim (λ a. z a) (λ b. ⊎_elim (λ c. omega (arith, number-early z, b.0)) (λ c. omega (arith, number-early z, b.1)) h) one_to_eight_lem)
  ]

-- ---- DEMAND 1, of the paper's calls and for every input

-- a number and a place are those of the first of these refusals that is given
abbrev pub Gives : (number place : ℕ) → List Verdict → Type 0
Gives number place rs = (number ≡ (first_given rs).number) × (place ≡ (first_given rs).place)

-- "refused by the number and place in the paper's table, given exactly when the paper says": each call by its refusals, in its order
pub record RefusedBy (t : Table) (s : State) (w : ℕ) (latest : Latest) (k d y : List ℕ) : Type 0 where
  -- "Power-on state: 1, 2"
  pub power_on_lem : Gives (power_on_call t).number (power_on_call t).place (refusal_1 t.count ∷ refusal_2 (tasks_of t) ∷ [])
  -- "Table check: 1 to 6."
  pub table : Gives (table_call t k d).answer.number (table_call t k d).answer.place (one_to_six t (k ∷ d ∷ []))
  -- "Moving vectors: 1 to 8."
  pub moving : Gives (moving_call t s k d y).answer.number (moving_call t s k d y).answer.place (one_to_eight t s (k ∷ d ∷ y ∷ []))
  -- "Admission: 1 to 14"
  pub admission : Gives (admission_call t s w latest k d y).answer.number (admission_call t s w latest k d y).answer.place
      (one_to_eight t s (k ∷ d ∷ y ∷ []) ++ nine_to_fourteen (tasks_of t) (view_of t.count s) w latest)
  -- "Slot: 1, 2, 3, 7, 15, 8."
  pub slot : Gives (slot_call t s).number (slot_call t s).place
      (one_to_three t
      ++ (refusal_7 (tasks_of t) s ∷ refusal_15 (view_of t.count s) ∷ refusal_8_slot (tasks_of t) (view_of t.count s) ∷ []))

-- "The running state is then as before": what a refused call answers besides
pub record AsBefore (t : Table) (s : State) (w : ℕ) (latest : Latest) (k d y : List ℕ) : Type 0 where
  pub slot : (slot_call t s).number ≢ 0 → SlotRefused t s
  pub admission : (admission_call t s w latest k d y).answer.number ≢ 0 → AdmissionRefused t s w latest k d y
  -- "A call that is handed no state refuses with the state all zero."
  pub power_on_lem : (power_on_call t).number ≢ 0 → (power_on_call t).state ≡ all_zero

-- "each lent vector is either untouched or holds what the paper states"
pub record LentVectors (t : Table) (s : State) (w : ℕ) (latest : Latest) (k d y : List ℕ) : Type 0 where
  pub table_refused : (table_call t k d).answer.number ≢ 0 → TableRefused t k d
  pub table_accepted : (table_call t k d).answer.number ≡ 0
      → ((table_call t k d).k ≡ filled (K (tasks_of t)) k) × ((table_call t k d).d ≡ filled (D (tasks_of t)) d)
  pub moving_refused : (moving_call t s k d y).answer.number ≢ 0 → MovingRefused t s k d y
  pub moving_accepted : (moving_call t s k d y).answer.number ≡ 0
      → ((moving_call t s k d y).k ≡ filled (K (tasks_of t)) k)
      × ((moving_call t s k d y).d ≡ filled (D (tasks_of t)) d)
      × ((moving_call t s k d y).y ≡ filled (y_of (tasks_of t) (view_of t.count s)) y)
  -- "Refusals asked before 9 touch no vector."
  pub admission_before_9 : 1 ≤ (admission_call t s w latest k d y).answer.number → (admission_call t s w latest k d y).answer.number ≤ 8
      → ((admission_call t s w latest k d y).k ≡ k) × ((admission_call t s w latest k d y).d ≡ d) × ((admission_call t s w latest k d y).y ≡ y)
  -- "From 9 in a call's order on, and on acceptance, K, D and Y hold this paper's numbers in their first places"
  pub admission_from_9 : ((admission_call t s w latest k d y).answer.number ≡ 0) ⊎ (9 ≤ (admission_call t s w latest k d y).answer.number)
      → ((admission_call t s w latest k d y).k ≡ filled (K (tasks_of t)) k)
      × ((admission_call t s w latest k d y).d ≡ filled (D (tasks_of t)) d)
      × ((admission_call t s w latest k d y).y ≡ filled (y_of (tasks_of t) (view_of t.count s)) y)

-- A table check that is accepted fills K and D.
pub table_fills : (t : Table) (k d : List ℕ) → (table_call t k d).answer.number ≡ 0
    → ((table_call t k d).k ≡ filled (K (tasks_of t)) k) × ((table_call t k d).d ≡ filled (D (tasks_of t)) d)
unfolding table_call
table_fills t k d e = rw (eq-eqb (table_verdict t k d).number 0 e) (refl, refl)

-- The moving vectors that are accepted fill K, D and Y.
pub moving_fills : (t : Table) (s : State) (k d y : List ℕ) → (moving_call t s k d y).answer.number ≡ 0
    → ((moving_call t s k d y).k ≡ filled (K (tasks_of t)) k)
    × ((moving_call t s k d y).d ≡ filled (D (tasks_of t)) d)
    × ((moving_call t s k d y).y ≡ filled (y_of (tasks_of t) (view_of t.count s)) y)
unfolding moving_call
moving_fills t s k d y e = rw (eq-eqb (moving_verdict t s k d y).number 0 e) (refl, refl, refl)

module _ (t : Table) (s : State) (w : ℕ) (latest : Latest) (k d y : List ℕ) where
  -- A call's number and place are those of the first of its refusals that is given.
  pub refused_by_lem : RefusedBy t s w latest k d y
  unfolding
      power_on_call power_on_verdict table_call table_verdict moving_call moving_verdict admission_call admission_verdict slot_call slot_verdict
  refused_by_lem = record {
    power_on_lem = (refl, refl);
    table = (refl, refl);
    moving = (refl, refl);
    admission = (refl, refl);
    slot = (refl, refl);
  }

  -- A refused call leaves the state, and says nothing else.
  pub as_before : AsBefore t s w latest k d y
  as_before = record { slot = slot_leaves t s; admission = admission_leaves t s w latest k d y; power_on_lem = power_on_zero t }

  -- Each lent vector is as it was lent, or filled.
  pub lent_vectors : LentVectors t s w latest k d y
  lent_vectors = record {
    table_refused = table_leaves t k d;
    table_accepted = table_fills t k d;
    moving_refused = moving_leaves t s k d y;
    moving_accepted = moving_fills t s k d y;
    admission_before_9 = vectors_untouched t s w latest k d y;
    admission_from_9 = vectors_filled t s w latest k d y;
  }
