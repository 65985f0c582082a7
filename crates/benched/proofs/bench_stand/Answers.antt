-- The tally of the state that is measured at.
use Rattle.std.proofs.Common.{ap}
use Rattle.benched.specs.Stand.{Standing, tally_of, bench_stand}
use Rattle.benched.proofs.bench_stand.Goals as goal

pub returns : goal.returns
unfolding bench_stand
returns c = ap (λ (a : Standing). tally_of a) c.stand.ensures.state
