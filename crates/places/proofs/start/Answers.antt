use Rattle.std.specs.Prelude.{◌≡◌, ◌<◌, length, get_or}
use Rattle.std.proofs.Common.{sym, ◌∙◌, arith, drop_of_length-le}
use Rattle.paper.specs.View.{tasks_of}
use Rattle.window.specs.Kept.{good_at}
use Rattle.theory.specs.Ready.{ready_pos}
use Rattle.theory.specs.Most.{due-above}
use Rattle.theory.specs.Lasts.{lasts as lasts_of, highest, length-lasts}
use Rattle.places.proofs.RowLaws.{few_tasks, period_divides, highest_next, lasts-at, put_row, row_full}
use Rattle.places.proofs.start.Goals.{In-loop-i}
use Rattle.places.proofs.start.Goals as goal

here : (c : In-loop-i) → (c.loop-i.i < length (tasks_of c.args.w.within.table)) × (c.loop-i.i < 16)
here c =
    let h = rw c.listed-task-items.ensures at c.loop-i-test.true in
    (h, omega (arith, h, few_tasks c.args.w.within.limits))

pub last_in-last-requires : goal.last_in-last-requires
last_in-last-requires c =
    let y = c.args.w.ready in
    let i = c.loop-i.i in
    let h = (here (goal.at.last_in-last-requires c).In-loop-i).0 in
    record {
      good = rw c.listed-task-items.ensures (good_at (tasks_of c.args.w.within.table) i y.good h);
      period = (rw c.listed-task-items.ensures (period_divides y i h), ready_pos y, y.short);
    }

pub bounds-lasts-i : goal.bounds-lasts-i
bounds-lasts-i c = (here (goal.at.bounds-lasts-i c).In-loop-i).1

pub loop-i-preserved : goal.loop-i-preserved
loop-i-preserved c =
    let ts = tasks_of c.args.w.within.table in
    let l = c.loop-i in
    let i = l.i in
    let h = (here (goal.at.loop-i-preserved c).In-loop-i).0 in
    let few = few_tasks c.args.w.within.limits in
    let ls = lasts_of ts c.args.w.window in
    let many = length-lasts ts c.args.w.window in
    let r : c.last_in-last.result ≡ get_or ls i 0
    = rw c.listed-task-items.ensures at c.last_in-last.ensures ∙ sym (lasts-at ts c.args.w.window i h) in
    let d = highest_next ls i (omega (arith, h, many)) in
    record {
      lasts_are = rw l.invariant.lasts_are (put_row ls i _ (omega (arith, h, many)) (omega (arith, few, many)) r);
      place_is = omega (arith, l.invariant.place_is, d, r, c.max-place.ensures);
    }

pub returns : goal.returns
unfolding highest
returns c =
    let w = c.args.w.window in
    let ts = tasks_of c.args.w.within.table in
    let l = c.loop-i in
    let ls = lasts_of ts w in
    let many = length-lasts ts w in
    let past = rw c.listed-task-items.ensures at c.loop-i-test.false in
    let inside = rw c.listed-task-items.ensures at l.auto.i-end in
    let none = drop_of_length-le ls {i = l.i} (omega (arith, many, past)) in
    record {
      ready = c.args.w.ready;
      inside = omega arith;
      place_is = omega (arith, rw none at l.invariant.place_is);
      above_is = omega (arith, due-above c.args.w.within.table w w c.args.w.ready (omega arith));
      lasts_are = rw l.invariant.lasts_are (row_full ls l.i (omega (arith, many, past, inside)));
    }
