-- From the oldest on: each job gives the least promise that the next may have.
use Rattle.std.proofs.Common.{◌≡◌, drop}
use Rattle.paper.specs.Refusals.{bad_waiting}
use Rattle.state.proofs.jobs.one_bad.Given as goal

abbrev pub invariant-loop-j : goal.invariant-loop-j
invariant-loop-j l = bad_waiting 0 l.jobs ≡ bad_waiting l.low.0 (drop l.j-index l.jobs)
