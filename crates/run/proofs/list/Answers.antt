-- A part has fewer lines left after it.
use Prim.Native.Nat.{ℕ}
use native.Mathlib.Omega.{arith}
use lib.ListN.{length-replicate}
use Rattle.listing.specs.Part.{part-fewer}
use Rattle.run.proofs.list.Goals as goal

pub loop-r-smaller : goal.loop-r-smaller
loop-r-smaller g c = rw c.in_ok-r-2.ensures (part-fewer _ _ _ c.loop-r-test.true (omega (arith, length-replicate {A = ℕ} 65536 0)))
