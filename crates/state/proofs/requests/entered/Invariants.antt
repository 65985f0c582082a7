-- From the last task down: a request that is not released stays, and so do the places past the tasks.
use Rattle.std.proofs.Common.{◌≡◌, ◌++◌, take, drop}
use Rattle.theory.specs.Scan.{from}
use Rattle.paper.specs.View.{request_lefts, requests_of}
use Rattle.paper.specs.Rule.{enter}
use Rattle.state.proofs.requests.entered.Given as goal

abbrev pub invariant-loop-i : goal.invariant-loop-i
invariant-loop-i l =
    let n = l.t.table.count in
    let before = l.initial.out in
    l.out ≡ take l.i before ++ (requests_of (enter (from l.t.table.tasks n l.i) l.at.0 (request_lefts (from before n l.i))) ++ drop n before)
