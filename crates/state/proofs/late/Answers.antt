-- Refusal 8 asks at now.
use Rattle.std.proofs.Common.{sym}
use Rattle.paper.specs.Refusals.{refusal_8, overdue}
use Rattle.paper.specs.View.{view_of}
use Rattle.state.proofs.late.Goals as goal

pub returns-then-overdue-clause-says : goal.returns-then-overdue-clause-says
unfolding refusal_8 overdue view_of
returns-then-overdue-clause-says c = rw (← c.overdue.ensures, c.if-overdue.true)

pub returns-then-overdue-clause-verdict : goal.returns-then-overdue-clause-verdict
returns-then-overdue-clause-verdict c = sym (returns-then-overdue-clause-says c)

pub returns-clause-says : goal.returns-clause-says
unfolding refusal_8 overdue view_of
returns-clause-says c = (rw (← c.overdue.ensures, c.if-overdue.false), tt)

pub returns-clause-verdict : goal.returns-clause-verdict
returns-clause-verdict c = sym (returns-clause-says c).0
