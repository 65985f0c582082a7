-- It has eight places.
use Rattle.std.proofs.Common.{arith}
use Rattle.paper.proofs.First.{first_places}
use Rattle.paper.proofs.State.waiting_jobs.Goals as goal

pub returns : goal.returns
returns c = rw c.min.ensures (first_places c.args.self.now.waiting 8 c.args.self.now.jobs (omega arith))
