-- A letter, and then a number and the line's end.
use Rattle.std.proofs.Common.{arith}
use Rattle.decimal.specs.Told.{told_more}
use Rattle.lines.proofs.named.Goals as goal

pub returns-clause-told : goal.returns-clause-told
returns-clause-told c = told_more (omega (arith, c.requires)) c.put.ensures c.word.ensures.told
