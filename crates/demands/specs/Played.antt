-- The runs that are asked about (paper/Asked.antt): where each call of some events is accepted, which is computed, they lead by calls from
-- the one state to the other.
use Rattle.std.specs.Prelude.{ℕ, zero, suc, ◌≡◌, Bool, true, ◌&&◌, List, [], ◌∷◌, eqb}
use Rattle.std.proofs.Common.{eqb-true}
use Rattle.paper.specs.declared.Task.{Task}
use Rattle.paper.specs.declared.State.{State}
use Rattle.paper.specs.declared.Latest.TheVariants.{None as NoLatest}
use Rattle.paper.specs.View.{table_of}
use Rattle.paper.specs.Calls.{power_on_call, admission_call, slot_call}
use Rattle.paper.specs.Reached.{FromCalls, start_called, slot_called, admission_called, ReachedByCalls}
use Rattle.paper.specs.Asked.{lent, Event, slots, arrival, run_on, play, state_at}
use Rattle.theory.specs.Verdicts.{and_true_both}

-- the next n slots are accepted
unfoldable pub all_run : List Task → ℕ → State → Bool
all_run ts zero s = true
all_run ts (suc n) s = eqb (slot_call (table_of ts) s).number 0 && all_run ts n (slot_call (table_of ts) s).state

-- every call of the events is accepted
unfoldable pub all_accepted : List Task → List Event → State → Bool
all_accepted ts [] s = true
all_accepted ts (slots n ∷ es) s = all_run ts n s && all_accepted ts es (run_on ts n s)
all_accepted ts (arrival w ∷ es) s =
    eqb (admission_call (table_of ts) s w NoLatest lent lent lent).answer.number 0
    && all_accepted ts es (admission_call (table_of ts) s w NoLatest lent lent lent).answer.state

run_on_lem : (ts : List Task) (n : ℕ) {s₀ s : State} → FromCalls (table_of ts) s₀ s → all_run ts n s ≡ true → FromCalls (table_of ts) s₀ (run_on ts n s)
unfolding all_run run_on
run_on_lem ts zero r e = r
run_on_lem ts (suc n) {s₀} {s} r e =
    let a = and_true_both (eqb (slot_call (table_of ts) s).number 0) (all_run ts n (slot_call (table_of ts) s).state) e in
    run_on_lem ts n (slot_called r (eqb-true (slot_call (table_of ts) s).number 0 a.0)) a.1

-- Accepted events lead by calls to where they are played.
pub played : (ts : List Task) (es : List Event) {s₀ s : State} → FromCalls (table_of ts) s₀ s → all_accepted ts es s ≡ true
    → FromCalls (table_of ts) s₀ (play ts es s)
unfolding all_accepted play
played ts [] r e = r
played ts (slots n ∷ es) {s₀} {s} r e =
    let a = and_true_both (all_run ts n s) (all_accepted ts es (run_on ts n s)) e in
    played ts es (run_on_lem ts n r a.0) a.1
played ts (arrival w ∷ es) {s₀} {s} r e =
    let o = (admission_call (table_of ts) s w NoLatest lent lent lent).answer in
    let a = and_true_both (eqb o.number 0) (all_accepted ts es o.state) e in
    played ts es (admission_called r w NoLatest lent lent lent (eqb-true o.number 0 a.0)) a.1

-- The state after accepted events from power-on is reached.
pub reached_at : (ts : List Task) (es : List Event) → all_accepted ts es (power_on_call (table_of ts)).state ≡ true
    → ReachedByCalls (table_of ts) (state_at ts es)
unfolding state_at
reached_at ts es e = played ts es start_called e
