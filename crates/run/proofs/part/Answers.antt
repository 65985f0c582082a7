-- What was written lies within the buffer.
use Rattle.std.proofs.Common.{sym, subst}
use Rattle.listing.specs.Part.{Inside, part-inside}
use Rattle.run.proofs.part.Goals as goal

pub hand_over-requires : goal.hand_over-requires
hand_over-requires g c = subst Inside (sym c.run_part-s.ensures) (part-inside _ _ _)
