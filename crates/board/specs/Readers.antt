-- What the calls make of a lent run by its length: each refuses 1 exactly if the run has none or more than sixteen. That a run of at
-- most sixteen is in its table whole is `LentRun.lent_tasks`.
use Rattle.std.specs.Prelude.{ℕ, suc, ◌<◌, ◌≡◌, refl, Bool, true, false, ◌||◌, ◌↔◌, ◌≢◌, ◌⊎◌, ltb, length}
use mathlib.Core.List.{List, [], ◌∷◌, ◌++◌}
use Rattle.std.proofs.Common.{inl, inr, arith, ltb-true, lt-ltb}
use Rattle.paper.specs.declared.Task.{Task}
use Rattle.paper.specs.declared.Table.{Table}
use Rattle.paper.specs.declared.State.{State}
use Rattle.paper.specs.declared.Latest.{Latest}
use Rattle.paper.specs.declared.Verdict.{Verdict}
use Rattle.paper.specs.View.{View, tasks_of, table_of, view_of}
use Rattle.paper.specs.Idle.{promise_of}
use Rattle.paper.specs.Refusals.{when, refusal_1, refusal_2, refusal_3, refusal_4, refusal_5, refusal_6, refusal_7, refusal_8, refusal_8_slot, refusal_12, refusal_13, refusal_14, refusal_15}
use Rattle.paper.specs.Calls.{first_given, nine_to_fourteen, power_on_verdict, power_on_call, table_verdict, table_call, moving_verdict, moving_call, admission_verdict, admission_call, slot_verdict, slot_call}
use Rattle.theory.specs.Verdicts.{or_true_right}
use Rattle.theory.specs.OwnNumber.{Own, Others, both_others, other, first-asked, own_2, own_3, own_4, own_5, own_6, own_7, own_8, own_8_slot, own_9_work, own_9_tallies, own_9_promise, own_10, own_11, own_12, own_13, own_14, own_15}

-- "1: no task, or over 16"
abbrev pub NoneOrMany : List Task → Type 0
NoneOrMany ts = (length ts ≡ 0) ⊎ (16 < length ts)

given_only : (n : ℕ) (none many : Bool) → ltb n 1 ≡ none → ltb 16 n ≡ many → (when (none || many) 1).number ≡ 1 → (n ≡ 0) ⊎ (16 < n)
given_only n true many p q e = inl (omega (arith, ltb-true n 1 p))
given_only n false true p q e = inr (ltb-true 16 n q)
given_only n false false p q e = absurd (omega arith)

given_if : (n : ℕ) → (n ≡ 0) ⊎ (16 < n) → (when (ltb n 1 || ltb 16 n) 1).number ≡ 1
given_if n (inl z) = rw (lt-ltb n 1 (omega arith))
given_if n (inr h) = rw (or_true_right (ltb n 1) (lt-ltb 16 n h))

pub refused_lent : (ts : List Task) → ((refusal_1 (table_of ts).count).number ≡ 1) ↔ NoneOrMany ts
unfolding refusal_1 table_of
refused_lent ts = (given_only (length ts) (ltb (length ts) 1) (ltb 16 (length ts)) refl refl, given_if (length ts))

-- ---- in each call's order

-- a number that is not 1
not_one : {m k : ℕ} → Own (suc (suc m)) k → k ≢ 1
not_one {m} {k} o = other {n = 1} {m = suc (suc m)} {k = k} o (omega arith) (λ e. omega arith)

module _ (ts : List Task) where
  abbrev t : Table
  t = table_of ts

  abbrev lent : List Task
  lent = tasks_of t

  first-is_one : (rs : List Verdict) → Others 1 rs → ((first_given (refusal_1 t.count ∷ rs)).number ≡ 1) ↔ NoneOrMany ts
  first-is_one rs os =
      let f = first-asked 1 (omega arith) (refusal_1 t.count) rs os in
      let g = refused_lent ts in
      (λ e. g.0 (f.0 e), λ h. f.1 (g.1 h))

  pub power_on_refused : ((power_on_call t).number ≡ 1) ↔ NoneOrMany ts
  unfolding power_on_call power_on_verdict
  power_on_refused = first-is_one (refusal_2 lent ∷ []) (not_one (own_2 lent), tt)

  -- the refusals that the longer calls share
  abbrev two_three : List Verdict
  two_three = refusal_2 lent ∷ refusal_3 lent ∷ []

  are_two_three : Others 1 two_three
  are_two_three = (not_one (own_2 lent), (not_one (own_3 lent), tt))

  abbrev two_to_six : List (List ℕ) → List Verdict
  two_to_six vs = two_three ++ (refusal_4 lent ∷ refusal_5 lent vs ∷ refusal_6 lent ∷ [])

  are_two_to_six : (vs : List (List ℕ)) → Others 1 (two_to_six vs)
  are_two_to_six vs =
      both_others 1 two_three (refusal_4 lent ∷ refusal_5 lent vs ∷ refusal_6 lent ∷ []) are_two_three
      (not_one (own_4 lent), (not_one (own_5 lent vs), (not_one (own_6 lent), tt)))

  pub table_refused : (k d : List ℕ) → ((table_call t k d).answer.number ≡ 1) ↔ NoneOrMany ts
  unfolding table_call table_verdict
  table_refused k d = first-is_one (two_to_six (k ∷ d ∷ [])) (are_two_to_six (k ∷ d ∷ []))

  module _ (s : State) where
    abbrev v : View
    v = view_of t.count s

    pub slot_refused : ((slot_call t s).number ≡ 1) ↔ NoneOrMany ts
    unfolding slot_call slot_verdict
    slot_refused =
        let rest : List Verdict = refusal_7 lent s ∷ refusal_15 v ∷ refusal_8_slot lent v ∷ [] in
        first-is_one (two_three ++ rest)
        (both_others 1 two_three rest are_two_three (not_one (own_7 lent s), (not_one (own_15 v), (not_one (own_8_slot lent v), tt))))

    abbrev two_to_eight : List (List ℕ) → List Verdict
    two_to_eight vs = two_to_six vs ++ (refusal_7 lent s ∷ refusal_8 lent v ∷ [])

    are_two_to_eight : (vs : List (List ℕ)) → Others 1 (two_to_eight vs)
    are_two_to_eight vs =
        both_others 1 (two_to_six vs) (refusal_7 lent s ∷ refusal_8 lent v ∷ []) (are_two_to_six vs)
        (not_one (own_7 lent s), (not_one (own_8 lent v), tt))

    pub moving_refused : (k d y : List ℕ) → ((moving_call t s k d y).answer.number ≡ 1) ↔ NoneOrMany ts
    unfolding moving_call moving_verdict
    moving_refused k d y = first-is_one (two_to_eight (k ∷ d ∷ y ∷ [])) (are_two_to_eight (k ∷ d ∷ y ∷ []))

    pub admission_refused : (work : ℕ) (latest : Latest) (k d y : List ℕ) → ((admission_call t s work latest k d y).answer.number ≡ 1) ↔ NoneOrMany ts
    unfolding admission_call admission_verdict
    admission_refused work latest k d y =
        let p = promise_of lent v work in
        let last : Others 1 (refusal_12 lent ∷ refusal_13 p ∷ refusal_14 p latest ∷ []) =
        (not_one (own_12 lent), (not_one (own_13 p), (not_one (own_14 p latest), tt))) in
        let nine : Others 1 (nine_to_fourteen lent v work latest) = (
          not_one (own_9_work lent v),
          (not_one (own_9_tallies lent v), (not_one (own_9_promise lent v), (not_one (own_10 work), (not_one (own_11 v), last)))),
        ) in
        first-is_one (two_to_eight (k ∷ d ∷ y ∷ []) ++ nine_to_fourteen lent v work latest)
        (both_others 1 (two_to_eight (k ∷ d ∷ y ∷ [])) (nine_to_fourteen lent v work latest) (are_two_to_eight (k ∷ d ∷ y ∷ [])) nine)
