-- The refusals of a slot in their order: what each test of the code leaves of the list.
use mathlib.Core.Path.{◌≡◌, refl, ◌∙◌}
use mathlib.Core.Bool.{Bool, true, false, cond, ◌||◌}
use mathlib.Core.List.{List, [], ◌∷◌}
use Prim.Native.Nat.{◌≤◌, ◌<◌}
use native.Mathlib.Omega.{arith}
use lib.Dec.{eqb}
use borrow.Author.Tests.{ne_eqb, le-leb, lt-leb}
use Rattle.paper.specs.declared.Table.{Table}
use Rattle.paper.specs.declared.State.{State}
use Rattle.paper.specs.declared.Who.{Who}
use Rattle.paper.specs.declared.Who.TheVariants.{Idle}
use Rattle.paper.specs.declared.Verdict.{Verdict}
use Rattle.paper.specs.declared.SlotAnswer.{SlotAnswer}
use Rattle.paper.specs.View.{Job, View, view_of, tasks_of}
use Rattle.paper.specs.Rule.{Does, nothing, task, job, runs_in, said, numbers_of, said_numbers}
use Rattle.paper.specs.declared.Refusal.{Refusal}
use Rattle.paper.specs.declared.Refusal.TheVariants.{ClockAtItsEnd}
use Rattle.paper.specs.Refusals.{H, passed, overdue, overdue_next, refusal_7, refusal_15, refusal_8_slot}
use Rattle.paper.specs.Refused.{verdict_of}
use Rattle.paper.specs.Calls.{first_given, one_to_three, slot_by, slot_verdict, slot_call, slot_numbers}
use Rattle.theory.specs.Said.{numbered_from1, said_first, pass_first, said_front, pass_front}
use Rattle.theory.specs.OneVerdict.{one_when}

-- a verdict that refuses gives the old state and nothing else
pub slot_refused : (t : Table) (s : State) (r : Refusal) → slot_verdict t s ≡ verdict_of r
    → record { number = (verdict_of r).number; place = (verdict_of r).place; who = Idle; ready = 0; state = s } ≡ slot_call t s
unfolding slot_call
slot_refused t s r q = rw (q, ne_eqb (verdict_of r).number 0 (λ z. let p = numbered_from1 r in omega arith))

-- What the verdict makes of the slot is the call: one that refuses nothing lets it run.
pub slot_by_lem : (t : Table) (s : State) (r : Verdict) → slot_verdict t s ≡ r → slot_by r (tasks_of t) (view_of t.count s) s ≡ slot_call t s
unfolding slot_call
slot_by_lem t s r q = rw q

module _ (t : Table) (s : State) where
  abbrev v : View
  v = view_of t.count s

  abbrev from_15 : List Verdict
  from_15 = refusal_15 v ∷ refusal_8_slot (tasks_of t) v ∷ []

  -- 1 to 3
  pub verdict_table : (r : Refusal) → first_given (one_to_three t) ≡ verdict_of r → slot_verdict t s ≡ verdict_of r
  unfolding slot_verdict
  verdict_table r q = said_front (one_to_three t) (refusal_7 (tasks_of t) s ∷ from_15) r q

  module _ (p : first_given (one_to_three t) ≡ passed) where
    -- 7
    pub verdict_shape : (r : Refusal) → refusal_7 (tasks_of t) s ≡ verdict_of r → slot_verdict t s ≡ verdict_of r
    unfolding slot_verdict
    verdict_shape r q = pass_front (one_to_three t) (refusal_7 (tasks_of t) s ∷ from_15) p ∙ said_first from_15 r q

    module _ (z : refusal_7 (tasks_of t) s ≡ passed) where
      rest : slot_verdict t s ≡ first_given from_15
      unfolding slot_verdict
      rest = pass_front (one_to_three t) (refusal_7 (tasks_of t) s ∷ from_15) p ∙ pass_first from_15 z

      -- 15
      pub verdict_clock : H ≤ s.now.0 → slot_verdict t s ≡ verdict_of ClockAtItsEnd
      unfolding view_of refusal_15
      verdict_clock h = rest ∙ said_first (refusal_8_slot (tasks_of t) v ∷ []) ClockAtItsEnd (rw (le-leb H s.now.0 h))

      -- 8
      pub verdict_late : s.now.0 < H → slot_verdict t s ≡ refusal_8_slot (tasks_of t) v
      unfolding view_of refusal_15 refusal_8_slot
      verdict_late h =
          rest
          ∙ pass_first (refusal_8_slot (tasks_of t) v ∷ []) (rw (lt-leb H s.now.0 h))
          ∙ one_when (overdue (tasks_of t) v || overdue_next (tasks_of t) v) 7

-- ---- what the answer says, as the paper's number and values

said-numbers : (k : Does) (js : List Job) → numbers_of (said k js) ≡ said_numbers k js
unfolding said said_numbers
said-numbers nothing js = refl
said-numbers (task i) js = refl
said-numbers job [] = refl
said-numbers job (j ∷ js) = refl

cond_numbers : (b : Bool) (w : Who) → numbers_of (cond b w Idle) ≡ cond b (numbers_of w) (0 ∷ [])
cond_numbers true w = refl
cond_numbers false w = refl

pub numbers_told : (t : Table) (s : State) (r : SlotAnswer) → r ≡ slot_call t s → numbers_of r.who ≡ slot_numbers t s
unfolding slot_call slot_numbers
numbers_told t s r q =
    let w = view_of t.count s in
    rw (q, cond_numbers (eqb (slot_verdict t s).number 0) (said (runs_in (tasks_of t) w) w.jobs), said-numbers (runs_in (tasks_of t) w) w.jobs)
