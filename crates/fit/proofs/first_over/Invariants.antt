use mathlib.Core.Path.{◌≡◌}
use Prim.Native.Nat.{ℕ, ◌+◌}
use mathlib.Core.Bool.{Bool}
use lib.Dec.{ltb}
use lib.ListN.{drop}
use Rattle.theory.specs.Overfull.{first_among}
use Rattle.moving.specs.Passed.{work_above}
use Rattle.fit.proofs.first_over.Given as goal

abbrev pub invariant-loop-place : goal.invariant-loop-place
invariant-loop-place l =
    let over : ℕ → Bool = λ u. ltb (u + work_above l.m u) l.all in
    first_among over l.places ≡ first_among over (drop l.place-index l.places)
