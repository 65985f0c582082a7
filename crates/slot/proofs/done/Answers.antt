-- The unit, the next state, and its ready word.
use Rattle.slot.specs.Next.{MayRise}
use Rattle.slot.proofs.done.Goals as goal

pub onward-next-requires : goal.onward-next-requires
onward-next-requires c =
    let rises : MayRise c.args.t.table c.args.at.0 c.one_unit-u.result = rw c.one_unit-u.ensures c.requires.may_rise in
    rises

pub returns : goal.returns
returns c = rw (c.ready-ready.ensures.word, c.onward-next.ensures, c.one_unit-u.ensures)
