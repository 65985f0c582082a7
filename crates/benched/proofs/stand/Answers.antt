-- The jobs from power-on on, and the slots from where they led.
use Rattle.std.proofs.Common.{ap, ◌∙◌}
use Rattle.paper.specs.declared.FieldsAnswer.{FieldsAnswer}
use Rattle.benched.specs.Stand.{stands}
use Rattle.benched.proofs.Steps.{stood}
use Rattle.benched.proofs.stand.Goals as goal

pub returns : goal.returns
returns c =
    let g = c.args in
    let read = c.read_fields in
    let p = c.power_on in
    let a = c.admissions-s in
    record {
      table = ap (λ (f : FieldsAnswer). f.table) read.ensures;
      state =
          stood read.result.table g.jobs g.work g.slots g.k.now g.d.now g.y.now _ _ _ p.result a.result c.run_slots.result p.ensures a.ensures c.run_slots.ensures
          ∙ ap (λ (f : FieldsAnswer). stands f.table g.jobs g.work g.slots g.k.now g.d.now g.y.now) read.ensures;
    }
