-- Each field of the next state in turn.
use Rattle.std.proofs.Common.{add-one}
use Rattle.paper.specs.Rule.{tally}
use Rattle.theory.specs.Offsets.{enter-offset}
use Rattle.slot.specs.Next.{next_of}
use Rattle.slot.proofs.onward.Goals as goal

pub returns : goal.returns
unfolding next_of tally
returns c =
    rw (
      c.entered.ensures,
      c.tallied.ensures,
      c.tallied-2.ensures,
      c.units-given.ensures.given,
      c.units-given.ensures.idle,
      c.requires.offset,
      enter-offset,
      add-one c.args.u.now.0,
    )
