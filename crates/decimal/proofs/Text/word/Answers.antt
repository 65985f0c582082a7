-- A number of 64 bits has at most twenty digits, and a byte follows them.
use Rattle.std.proofs.Common.{arith}
use Rattle.decimal.specs.Told.{told_more, room_after}
use Rattle.decimal.specs.Decimal.{decimal-most}
use Rattle.decimal.proofs.Text.word.Goals as goal

pub number-requires : goal.number-requires
number-requires c = omega (arith, decimal-most c.args.n c.ranges.n.fits, c.requires)

pub put-requires : goal.put-requires
put-requires c = room_after 1 (omega (arith, decimal-most c.args.n c.ranges.n.fits, c.requires)) c.number.ensures

pub returns : goal.returns
returns c =
    let few = decimal-most c.args.n c.ranges.n.fits in
    record {
      told = told_more (omega (arith, few, c.requires)) c.number.ensures c.put.ensures;
      most = omega (arith, few, c.number.ensures.wrote.place, c.put.ensures.wrote.place);
    }
