-- From the last task down.
use Rattle.std.proofs.Common.{◌≡◌}
use Rattle.theory.specs.Scan.{from}
use Rattle.paper.specs.Refusals.{late_request}
use Rattle.paper.specs.View.{request_lefts}
use Rattle.state.proofs.requests.one_late.Given as goal

abbrev pub invariant-loop-i : goal.invariant-loop-i
invariant-loop-i l =
    let n = l.t.table.count in
    l.late ≡ late_request (from l.t.table.tasks n l.i) (request_lefts (from l.requests n l.i)) l.now.0 l.at.0
