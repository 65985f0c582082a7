-- It has sixteen places.
use Rattle.std.proofs.Common.{arith}
use Rattle.paper.specs.View.{tasks_of}
use Rattle.paper.proofs.First.{first_places}
use Rattle.paper.proofs.Table.listed.Goals as goal

pub returns : goal.returns
unfolding tasks_of
returns c = rw c.min.ensures (first_places c.args.self.now.count 16 c.args.self.now.tasks (omega arith))
