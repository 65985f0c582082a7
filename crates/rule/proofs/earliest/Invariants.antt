-- From the last task down: what is told of the later ones, and one request more in front.
use Rattle.std.proofs.Common.{◌≡◌, suc, ◌-◌, ◌*◌, ◌≤◌}
use Rattle.rule.proofs.Firsts.{told}
use Rattle.paper.specs.View.{request_lefts}
use Rattle.paper.specs.Rule.{first}
use Rattle.theory.specs.Scan.{from}
use Rattle.theory.specs.DueBy.{due_by}
use Rattle.rule.proofs.earliest.Given as goal

abbrev pub invariant-loop-i : goal.invariant-loop-i
invariant-loop-i l =
    let n = l.t.table.count in
    let ts = from l.t.table.tasks n l.i in
    let ls = request_lefts (from l.requests n l.i) in record {
      best : l.best ≡ told l.i (first ts ls l.v.0) (due_by ts ls l.v.0 (suc l.v.0));
      soon : l.best.soon ≤ (n - l.i) * 65535;
    }
