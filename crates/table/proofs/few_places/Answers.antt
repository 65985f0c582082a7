-- Refusal 4, from the number of the places.
use Rattle.std.proofs.Common.{arith}
use Rattle.paper.specs.View.{tasks_of}
use Rattle.places.specs.Counted.{four_given, all_counted}
use Rattle.table.proofs.few_places.Goals as goal

pub returns-then-count-gt1024 : goal.returns-then-count-gt1024
returns-then-count-gt1024 c = four_given (tasks_of c.args.w.within.table) c.count_places-count.result c.count_places-count.ensures c.if-count-gt1024.true

pub returns : goal.returns
returns c = all_counted (tasks_of c.args.w.within.table) c.count_places-count.result c.count_places-count.ensures (omega arith)
