-- A turn leaves fewer.
use mathlib.Core.Path.{refl}
use native.Mathlib.Omega.{arith}
use lib.ListN.{replicate}
use Rattle.listing.specs.Run.{Outcome, turns, afresh}
use Rattle.listing.specs.Part.{goes, line-fewer}
use Rattle.show.proofs.walk.Goals as goal

pub loop-r-smaller : goal.loop-r-smaller
unfolding turns
loop-r-smaller g c =
    let o : Outcome = record { running = afresh c.loop-r.r; out = replicate 80 0 } in
    rw c.in_ok-r.ensures (line-fewer _ o _ (goes o c.loop-r-test.true (omega arith)) refl)
