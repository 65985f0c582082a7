-- The label, a blank and the number, and the line's end, one after another.
use Rattle.std.proofs.Common.{arith}
use Rattle.decimal.specs.Told.{told_more}
use Rattle.show.specs.Numbers.{label_number}
use Rattle.show.proofs.number_line.Goals as goal

pub returns-clause-told : goal.returns-clause-told
returns-clause-told c =
    let a = c.args in
    let room = c.requires in
    let p = c.put_all.ensures in
    let q = c.after_blank.ensures in
    let pq = told_more (omega arith) p q.told in
    rw (label_number a.label.now a.n) at (told_more (omega (arith, pq.wrote.place, p.wrote.place, q.most)) pq c.put.ensures)
