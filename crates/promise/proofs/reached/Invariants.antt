-- The running sum from a place on: each turn adds one entry, until the need is reached.
use mathlib.Core.Path.{◌≡◌}
use Prim.Native.Nat.{◌<◌}
use Rattle.std.specs.Iterator.Adapters.{zip_first, zip_second}
use Rattle.std.specs.Slice.Iter.{iter_rest}
use Rattle.paper.specs.Idle.{reach}
use Rattle.promise.proofs.reached.Given as goal

abbrev pub invariant-loop-time : goal.invariant-loop-time
invariant-loop-time l =
    let ks = iter_rest (zip_first l.time-iterator) in
    let ys = iter_rest (zip_second l.time-iterator) in
    (l.sum < l.need) × (reach l.k l.y l.before l.need ≡ reach ks ys l.sum l.need)
