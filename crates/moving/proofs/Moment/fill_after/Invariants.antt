-- From the last place down to the one after place h. Before a turn the walk stands at the time of the next place.
use mathlib.Core.Path.{◌≡◌}
use mathlib.Core.List.{◌++◌}
use Prim.Native.Nat.{◌*◌, ◌-◌, ◌≤◌, ◌<◌}
use lib.ListN.{length, take, drop, get_or}
use Rattle.paper.specs.Places.{K}
use Rattle.paper.specs.Vectors.{vec, above_moving, times, sum as total}
use Rattle.moving.specs.Above.{tasks_at}
use Rattle.moving.proofs.Stands.{Stands}
use Rattle.moving.proofs.Moment.fill_after.Given as goal

abbrev pub invariant-loop-i : goal.invariant-loop-i
invariant-loop-i l =
    let m = l.self in
    let t = m.checked.within.table in
    let W = m.checked.window in
    let ts = tasks_at m in
    let ls = take t.count l.lefts in
    let n = length l.k in
    let ys = vec (above_moving ts ls m.v.0 W) W (drop l.i (K ts)) in
    (l.h < l.i)
    × (length l.y ≡ length l.initial.y)
    × (l.left ≡ total ys)
    × (l.y ≡ take l.i l.initial.y ++ (ys ++ drop n l.initial.y))
    × Stands t ls W m.v.0 (get_or (times ts m.v.0) (l.i - 1) 0) l.s
    × (l.s.above ≤ (n - l.i) * (16 * 65535))
