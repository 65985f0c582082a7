use Rattle.std.proofs.Common.{arith}
use Rattle.table.proofs.Fill.{Turn, turn, fill_start, fill_more, fill_end}
use Rattle.table.proofs.fill_table.Goals.{In-loop-i}
use Rattle.table.proofs.fill_table.Goals as goal

here : (c : In-loop-i) → Turn c.args.j.checked.within.table c.args.j.checked.window c.loop-i.s c.loop-i.sum c.loop-i.i
here c = turn _ _ _ _ _ _ _ _ _ _ c.loop-i.invariant (omega arith)

pub loop-i-init : goal.loop-i-init
loop-i-init c = fill_start _ _ _ _ _ _ c.start-s.ensures c.requires.0

pub idle_at-idle-requires : goal.idle_at-idle-requires
idle_at-idle-requires c =
    let h = here (goal.at.idle_at-idle-requires c).In-loop-i in
    (h.in_window, c.args.j.checked.ready.short, omega (arith, h.above_most), h.sum-most)

pub down-s-requires : goal.down-s-requires
down-s-requires c = omega (arith, (here (goal.at.down-s-requires c).In-loop-i).above_most)

pub loop-i-preserved : goal.loop-i-preserved
loop-i-preserved c =
    let l = c.loop-i in
    let x = l.invariant in
    let p = c.loop-i-test.true in
    let y = x.walk p in
    fill_more _ _ _ _ _ _ _ _ _ _ x p c.idle_at-idle.result c.down-s.result c.idle_at-idle.ensures.0 (omega (arith, c.requires, l.auto)) (omega (arith, c.requires, l.auto))
    (c.down-s.ensures _ _ y.time c.of-rows.ensures y.stands)

pub returns : goal.returns
returns c = fill_end _ _ _ _ _ _ _ _ _ _ c.args.j.checked.ready.is_window c.requires.0 c.loop-i.invariant (omega arith)
