-- Admission's outcome, from what 1 to 8 answered and what was offered.
use mathlib.Core.Path.{◌≡◌, ◌∙◌}
use mathlib.Core.List.{List, [], ◌∷◌}
use Prim.Native.Nat.{ℕ, ◌+◌}
use lib.ListN.{set}
use Rattle.std.specs.Prelude.{Result, Ok, Err}
use Rattle.paper.specs.declared.Task.{Task}
use Rattle.paper.specs.declared.Slot.{Slot}
use Rattle.paper.specs.declared.Table.{Table}
use Rattle.paper.specs.declared.State.{State}
use Rattle.paper.specs.declared.Latest.{Latest}
use Rattle.paper.specs.declared.Verdict.{Verdict}
use Rattle.paper.specs.declared.Refusal.{Refusal}
use Rattle.paper.specs.Idle.{promise_of}
use Rattle.paper.specs.View.{View, view_of, state_of, tasks_of}
use Rattle.paper.specs.Refusals.{passed}
use Rattle.paper.specs.Refused.{verdict_of, Says}
use Rattle.paper.specs.Calls.{first_given, one_to_eight, nine_to_fourteen, moving_verdict, admission_verdict, admitted, admission_call}
use Rattle.theory.specs.Said.{said_front, pass_front, said_refuses}
use Rattle.theory.specs.States.{Shape, put_jobs, shaped_admitted}
use Rattle.admit.specs.Parts.{Offered, Accepted, Lent, refused_answer}

module _ (t : Table) (s : State) (work : ℕ) (latest : Latest) (k d y : List ℕ) where
  abbrev ts : List Task
  ts = tasks_of t

  abbrev view : View
  view = view_of t.count s

  abbrev early : List Verdict
  early = one_to_eight t s (k ∷ d ∷ y ∷ [])

  abbrev later : List Verdict
  later = nine_to_fourteen ts view work latest

  pub said_eight : (r : Refusal) → moving_verdict t s k d y ≡ verdict_of r → admission_verdict t s work latest k d y ≡ verdict_of r
  unfolding admission_verdict moving_verdict
  said_eight r e = said_front early later r e

  module _ (e : moving_verdict t s k d y ≡ passed) where
    past_eight : admission_verdict t s work latest k d y ≡ first_given later
    unfolding admission_verdict moving_verdict
    past_eight = pass_front early later e

    pub says_later : Shape t s → (a : Result Slot Refusal) → Says (first_given later) (Offered t s work) a
        → Says (admission_verdict t s work latest k d y) (Accepted t s work) a
    says_later h (Ok p) o = (past_eight ∙ o.0, record { is_shaped = h; offers = o.1 })
    says_later h (Err r) o = past_eight ∙ o

  module _ {k' d' y' : List ℕ} (l : Lent t s k d y k' d' y') where
    pub refused_job : (r : Refusal) → admission_verdict t s work latest k d y ≡ verdict_of r
        → record { answer = refused_answer (verdict_of r) s; k = k'; d = d'; y = y' } ≡ admission_call t s work latest k d y
    unfolding admission_call
    refused_job r e =
        rw (
          said_refuses (promise_of ts view work) 0 r e,
          said_refuses (state_of (admitted ts view work)) s r e,
          e,
          l.in_k,
          l.in_d,
          l.in_y,
        )

    pub accepted_job : (p : Slot) (after : State) → admission_verdict t s work latest k d y ≡ passed → Accepted t s work p
        → after ≡ put_jobs s (set s.jobs s.waiting (record { left = work; promise = p })) (s.waiting + 1)
        → record { answer = record { number = 0; place = 0; promise = p; state = after }; k = k'; d = d'; y = y' }
        ≡ admission_call t s work latest k d y
    unfolding admission_call
    accepted_job p after e a f =
        rw (e, f, shaped_admitted a.is_shaped work a.offers.room, ← a.offers.promise_is, l.in_k, l.in_d, l.in_y)
