use mathlib.Core.Path.{◌≡◌}
use Prim.Native.Nat.{◌*◌, ◌-◌, ◌≤◌}
use Rattle.paper.specs.Vectors.{above_moving}
use Rattle.paper.specs.View.{request_lefts}
use Rattle.theory.specs.Scan.{from}
use Rattle.moving.proofs.Moment.above.Given as goal

abbrev pub invariant-loop-i : goal.invariant-loop-i
invariant-loop-i l =
    let m = l.self in
    let t = m.checked.within.table in
    (l.sum ≡ above_moving (from t.tasks t.count l.i) (request_lefts (from m.requests t.count l.i)) m.v.0 m.checked.window l.k.0)
    × (l.sum ≤ (t.count - l.i) * 110000)
