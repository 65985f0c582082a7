-- The slot, a blank, and what it did.
use Rattle.std.proofs.Common.{arith}
use Rattle.paper.specs.Listing.{who_word}
use Rattle.decimal.specs.Told.{told_more}
use Rattle.lines.specs.Words.{slot_words}
use Rattle.lines.proofs.slot_line.Goals as goal

pub returns-clause-told : goal.returns-clause-told
returns-clause-told c =
    let p = c.word.ensures in
    rw (slot_words c.args.slot (who_word c.args.r.who)) at (told_more (omega (arith, c.requires, p.told.wrote.place, p.most)) p.told c.who_word.ensures.told)
