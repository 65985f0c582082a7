-- A late request, or a late job.
use Rattle.paper.specs.View.{view_of}
use Rattle.state.proofs.overdue.Goals as goal

pub returns-then-one_late : goal.returns-then-one_late
unfolding view_of
returns-then-one_late c = rw (c.if-one_late.true, ← c.one_late.ensures, c.if-one_late.true)

pub returns-else-one_late : goal.returns-else-one_late
unfolding view_of
returns-else-one_late c =
    rw (← c.one_late.ensures, c.if-one_late.false, c.one_late-else-one_late.ensures, c.waiting_jobs.ensures)
