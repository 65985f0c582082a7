use Rattle.std.specs.Prelude.{◌≡◌, ◌+◌, take}
use Rattle.std.proofs.Common.{sym, ◌∙◌, arith, take_all}
use Rattle.paper.specs.Window.{window}
use Rattle.paper.specs.View.{tasks_of}
use Rattle.theory.specs.WindowLaws.{window-none}
use Rattle.window.specs.Kept.{good_at}
use Rattle.window.proofs.Tested.{window-long, window-good, window-next, window-so_far}
use Rattle.window.proofs.window_of.Goals.{After-with_task-w}
use Rattle.window.proofs.window_of.Goals as goal

-- the window with one task more
more : (c : After-with_task-w) → c.with_task-w.result ≡ window (take (c.loop-task.task-index + 1) (tasks_of c.args.t.table))
more c =
    let l = c.loop-task in
    c.with_task-w.ensures
    ∙ rw (l.invariant.1, c.listed-task-items.ensures)
    (window-next (tasks_of c.args.t.table) l.task-index (rw c.listed-task-items.ensures at c.loop-task-test.true))

pub loop-task-init : goal.loop-task-init
loop-task-init c = (omega arith, sym window-none)

pub with_task-w-requires-clause-good : goal.with_task-w-requires-clause-good
with_task-w-requires-clause-good c =
    rw c.listed-task-items.ensures (good_at (tasks_of c.args.t.table) c.loop-task.task-index c.args.t.limits.good (rw c.listed-task-items.ensures at c.loop-task-test.true))

pub returns-then-w-gt30000 : goal.returns-then-w-gt30000
returns-then-w-gt30000 c =
    let ts = tasks_of c.args.t.table in
    window-long ts
    (omega (arith, more (goal.at.returns-then-w-gt30000 c).After-with_task-w, window-so_far ts (c.loop-task.task-index + 1) c.args.t.limits.good))

pub loop-task-preserved : goal.loop-task-preserved
loop-task-preserved c = (omega arith, more (goal.at.loop-task-preserved c).After-with_task-w)

pub returns : goal.returns
returns c =
    let ts = tasks_of c.args.t.table in
    let l = c.loop-task in
    let e : l.w ≡ window ts
    = l.invariant.1 ∙ rw (take_all l.task-index ts (rw c.listed-task-items.ensures at c.loop-task-test.false)) in
    (window-good ts (omega arith), e)
