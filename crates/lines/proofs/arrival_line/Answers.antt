-- By the number of the answer, the line of a promise or of a refusal.
use Rattle.std.proofs.Common.{arith, eq-eqb, ne_eqb}
use Rattle.decimal.specs.Told.{told_more}
use Rattle.lines.specs.Words.{three_words}
use Rattle.lines.proofs.arrival_line.Goals.{then-r-eq0, else-r-eq0}
use Rattle.lines.proofs.arrival_line.Goals as goal

pub returns-clause-told : goal.returns-clause-told
returns-clause-told c =
    let a = c.args.a in
    let r = c.args.r in
    let room = c.requires in
    let p = told_more (omega arith) c.put.ensures c.put-2.ensures in
    let q = told_more (omega (arith, p.wrote.place)) p c.word.ensures.told in
    let work = rw c.from-2.ensures at c.word-2.ensures.told in
    let three = told_more (omega (arith, q.wrote.place, c.word.ensures.most)) q work in
    let all = told_more (omega (arith, three.wrote.place, c.word-2.ensures.most)) three c.word-3.ensures.told in
    let whole = rw (three_words c.if-r-eq0.letter.0 a.slot.0 a.work c.if-r-eq0.letter.1) at all in
    elim c.if-r-eq0.branch [
      | then-r-eq0 w ↦ rw (eq-eqb r.number 0 w.if-r-eq0.true) (rw w.letter-is at whole)
      | else-r-eq0 w ↦ rw (ne_eqb r.number 0 w.if-r-eq0.false) (rw (w.letter-is, w.from.ensures) at whole)
    ]
