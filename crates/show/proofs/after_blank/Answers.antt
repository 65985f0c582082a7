-- The number is put after the blank, and has 20 digits at most.
use Rattle.std.proofs.Common.{arith}
use Rattle.decimal.specs.Told.{told_more, room_after}
use Rattle.decimal.specs.Decimal.{decimal-most}
use Rattle.show.proofs.after_blank.Goals as goal

pub number-requires : goal.number-requires
number-requires c = room_after _ (omega (arith, decimal-most c.args.n c.ranges.n.fits, c.requires)) c.put.ensures

pub returns-clause-told : goal.returns-clause-told
returns-clause-told c = told_more (omega (arith, c.requires)) c.put.ensures c.number.ensures

pub returns-clause-most : goal.returns-clause-most
returns-clause-most c = omega (arith, decimal-most c.args.n c.ranges.n.fits, c.put.ensures.wrote.place, c.number.ensures.wrote.place)
