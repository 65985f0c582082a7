-- One admission more at the state that is measured at.
use Rattle.std.proofs.Common.{ap, ◌∙◌}
use Rattle.paper.specs.declared.Table.{Table}
use Rattle.paper.specs.Calls.{AdmissionOutcome}
use Rattle.benched.specs.Stand.{Standing, table_read, stands, asks, promised, bench_admission}
use Rattle.benched.proofs.bench_admission.Goals as goal

pub returns : goal.returns
unfolding bench_admission
returns c =
    let g = c.args in
    let at = c.stand-at in
    ap (λ (o : AdmissionOutcome). promised o) c.admit.ensures
    ∙ ap (λ (a : Standing). promised (asks at.result.table g.more a)) at.ensures.state
    ∙ ap (λ (t : Table). promised (asks t g.more (stands (table_read g.bytes.now) g.jobs g.work g.slots g.k.now g.d.now g.y.now))) at.ensures.table
