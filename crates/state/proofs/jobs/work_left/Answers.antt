use Rattle.std.proofs.Common.{rules}
use Rattle.state.proofs.Walks.{work_sum}
use Rattle.state.proofs.jobs.work_left.Goals as goal

pub returns : goal.returns
returns c = rw (work_sum c.args.jobs.now) (search rules)
