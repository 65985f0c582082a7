-- What was written lies within the buffer.
use Rattle.std.proofs.Common.{sym, subst}
use Rattle.listing.specs.Part.{Inside}
use Rattle.listing.specs.Begin.{begun-inside}
use Rattle.run.proofs.start.Goals as goal

pub hand_over-requires : goal.hand_over-requires
hand_over-requires g c = subst Inside (sym c.begin-r.ensures) (begun-inside _ _)
