-- A number is put after those before it, and the line's end after all.
use Rattle.std.proofs.Common.{arith, take_all}
use Rattle.decimal.specs.Told.{told_none, told_more}
use Rattle.show.specs.Numbers.{after_next, after_none}
use Rattle.show.proofs.vector_line.Goals as goal

pub loop-n-init : goal.loop-n-init
loop-n-init c = record { told = rw after_none (told_none _); most = omega arith }

pub loop-n-preserved : goal.loop-n-preserved
loop-n-preserved c =
    let i = c.loop-n.invariant in
    let p = c.put.ensures in
    let b = c.after_blank.ensures in
    record {
      told = rw (after_next c.args.v.now c.loop-n.n-index c.loop-n-test.true) at
          (told_more (omega (arith, i.told.wrote.place, i.most, p.wrote.place, p.same_length, c.loop-n-test.true, c.requires)) i.told (rw c.from.ensures at b.told));
      most = omega (arith, i.most, b.most);
    }

pub returns-clause-told : goal.returns-clause-told
returns-clause-told c =
    let i = c.loop-n.invariant in
    let p = c.put.ensures in
    let all = rw (take_all c.loop-n.n-index c.args.v.now c.loop-n-test.false) at i.told in
    let pq = told_more (omega (arith, c.requires)) p all in
    told_more (omega (arith, pq.wrote.place, i.most, p.wrote.place, c.loop-n.auto.n-index-end, c.requires)) pq c.put-2.ensures
