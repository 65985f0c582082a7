-- The unused places, and then the tasks' from the last down.
use Rattle.std.proofs.Common.{◌≡◌, drop}
use Rattle.theory.specs.Scan.{from}
use Rattle.paper.specs.Refusals.{bad_requests}
use Rattle.state.proofs.requests.bad_requests.Given as goal

abbrev pub invariant-loop-i : goal.invariant-loop-i
invariant-loop-i l = l.bad ≡ bad_requests (from l.t.table.tasks l.t.table.count l.i) (drop l.i l.requests)
