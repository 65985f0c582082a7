-- The clauses of refusal 7 in turn.
use Rattle.std.proofs.Common.{◌≡◌, ◌||◌, ◌-◌, ltb, take, drop, length, length-drop, take_all, arith, ap}
use Rattle.std.proofs.lemmas.Bool.{lt-ltb, le-ltb}
use Rattle.paper.specs.View.{tasks_of}
use Rattle.paper.specs.Refusals.{H, when, refusal_7, bad_requests, bad_waiting, one_used}
use Rattle.theory.specs.Ready.{ready_pos}
use Rattle.state.proofs.Walks.{or_assoc}
use Rattle.state.proofs.misshapen.Goals.{Joined-s-gt-CLOCK_END, Joined-bad_requests, Joined-s-gt8, Joined-one_bad}
use Rattle.state.proofs.misshapen.Goals.{then-s-gt-CLOCK_END, else-s-gt-CLOCK_END, then-bad_requests, else-bad_requests}
use Rattle.state.proofs.misshapen.Goals.{then-s-gt8, else-s-gt8, then-one_bad, else-one_bad}
use Rattle.state.proofs.misshapen.Goals as goal

requests_bad : (c : Joined-s-gt-CLOCK_END) → c.if-s-gt-CLOCK_END.value ≡ ltb H c.args.s.now.0 || bad_requests (tasks_of c.args.w.within.table) c.args.s.requests
requests_bad c = elim c.if-s-gt-CLOCK_END.branch [
  | then-s-gt-CLOCK_END w ↦ rw (w.value-is, lt-ltb _ _ w.if-s-gt-CLOCK_END.true)
  | else-s-gt-CLOCK_END w ↦ rw (w.value-is, le-ltb _ _ w.if-s-gt-CLOCK_END.false) w.bad_requests.ensures
]

many_wait : (c : Joined-bad_requests) → c.if-bad_requests.value ≡ c.if-s-gt-CLOCK_END.value || ltb 8 c.args.s.waiting
many_wait c = elim c.if-bad_requests.branch [
  | then-bad_requests w ↦ rw (w.value-is, w.if-bad_requests.true)
  | else-bad_requests w ↦ rw (w.value-is, w.if-bad_requests.false)
]

jobs_bad : (c : Joined-s-gt8) → c.if-s-gt8.value ≡ c.if-bad_requests.value || bad_waiting 0 (take c.args.s.waiting c.args.s.jobs)
jobs_bad c = elim c.if-s-gt8.branch [
  | then-s-gt8 w ↦ rw (w.value-is, w.if-s-gt8.true)
  | else-s-gt8 w ↦ rw (w.value-is, w.if-s-gt8.false, w.one_bad.ensures, w.waiting_jobs.ensures)
]

places_used : (c : Joined-one_bad) → c.if-one_bad.value ≡ c.if-s-gt8.value || one_used (drop c.args.s.waiting c.args.s.jobs)
places_used c =
    let n = c.args.s.waiting in
    let js = c.args.s.jobs in
    let rest : take (length js - n) (drop n js) ≡ drop n js = take_all _ _ (omega (arith, length-drop n js)) in
    elim c.if-one_bad.branch [
      | then-one_bad w ↦ rw (w.value-is, w.if-one_bad.true)
      | else-one_bad w ↦ rw (w.value-is, w.if-one_bad.false, w.one_used.ensures, rest)
    ]

pub over_tallied-requires : goal.over_tallied-requires
over_tallied-requires c = ready_pos c.args.w.ready

pub returns-then-one_used : goal.returns-then-one_used
unfolding refusal_7
returns-then-one_used c =
    let at = goal.at.returns-then-one_used c in
    simp or_assoc
    (rw (← requests_bad at.Joined-s-gt-CLOCK_END, ← many_wait at.Joined-bad_requests, ← jobs_bad at.Joined-s-gt8, ← places_used at.Joined-one_bad, c.if-one_used.true))

pub returns-else-one_used : goal.returns-else-one_used
unfolding refusal_7
returns-else-one_used c =
    let at = goal.at.returns-else-one_used c in
    simp or_assoc
    (rw (← requests_bad at.Joined-s-gt-CLOCK_END, ← many_wait at.Joined-bad_requests, ← jobs_bad at.Joined-s-gt8, ← places_used at.Joined-one_bad, c.if-one_used.false, ← c.args.w.ready.is_window) (ap (λ b. when b 7) c.over_tallied.ensures))
