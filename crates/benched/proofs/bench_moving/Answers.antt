-- The moving vectors of the state that is measured at.
use Rattle.std.proofs.Common.{ap, ◌∙◌}
use Rattle.paper.specs.declared.Table.{Table}
use Rattle.paper.specs.Calls.{MovingOutcome}
use Rattle.benched.specs.Stand.{Standing, table_read, stands, moves, places_of, bench_moving}
use Rattle.benched.proofs.bench_moving.Goals as goal

pub returns : goal.returns
unfolding bench_moving
returns c =
    let g = c.args in
    let at = c.stand-at in
    ap (λ (o : MovingOutcome). places_of o) c.moving_vectors.ensures
    ∙ ap (λ (a : Standing). places_of (moves at.result.table a)) at.ensures.state
    ∙ ap (λ (t : Table). places_of (moves t (stands (table_read g.bytes.now) g.jobs g.work g.slots g.k.now g.d.now g.y.now))) at.ensures.table
