-- From the last place down: each task's last deadline is lowered where it is k, and its work is added.
use mathlib.Core.Path.{◌≡◌}
use mathlib.Core.List.{◌++◌}
use Prim.Native.Nat.{◌+◌, ◌*◌, ◌-◌, ◌≤◌}
use lib.ListN.{take, drop}
use Rattle.theory.specs.Lasts.{periods, lowered}
use Rattle.moving.specs.Passed.{passed}
use Rattle.theory.specs.Scan.{from}
use Rattle.moving.proofs.deadlines.down.Given as goal

abbrev pub invariant-loop-i : goal.invariant-loop-i
invariant-loop-i l =
    let n = l.t.count in
    (l.lasts ≡ take l.i l.s.lasts ++ (lowered l.k (periods (from l.t.tasks n l.i)) (from l.s.lasts n l.i) ++ drop n l.s.lasts))
    × (l.above ≡ passed l.k l.ahead (from l.t.tasks n l.i) (from l.lefts n l.i) (from l.s.lasts n l.i) + l.s.above)
    × (l.above ≤ (n - l.i) * 65535 + l.s.above)
