-- The check of the table that was read.
use mathlib.Core.Path.{ap, ◌∙◌}
use Rattle.paper.specs.Calls.{TableOutcome, table_call}
use Rattle.paper.specs.declared.FieldsAnswer.{FieldsAnswer}
use Rattle.benched.specs.Stand.{idle_of, bench_table}
use Rattle.benched.proofs.bench_table.Goals as goal

pub returns : goal.returns
unfolding bench_table
returns c =
    let g = c.args in
    let f = c.read_fields in
    let a = c.check_table in
    ap (λ (o : TableOutcome). idle_of o) a.ensures ∙ ap (λ (x : FieldsAnswer). idle_of (table_call x.table g.k.now g.d.now)) f.ensures
