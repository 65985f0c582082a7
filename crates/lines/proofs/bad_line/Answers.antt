-- The letter x and two numbers.
use Rattle.std.proofs.Common.{arith}
use Rattle.decimal.specs.Told.{told_more}
use Rattle.lines.specs.Words.{two_words_lem}
use Rattle.lines.proofs.bad_line.Goals as goal

pub returns-clause-told : goal.returns-clause-told
returns-clause-told c =
    let v = c.args.v in
    let room = c.requires in
    let x = told_more (omega arith) c.put_all.ensures c.word.ensures.told in
    rw (c.from.ensures, c.from-2.ensures, two_words_lem 120 v.number v.place) at (told_more (omega (arith, x.wrote.place, c.word.ensures.most)) x c.word-2.ensures.told)
