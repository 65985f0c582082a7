-- A file that is read is told, and of another its refusal, with nothing else.
use Rattle.std.proofs.Common.{◌≡◌, sym, ap, ◌∙◌, ◌*◌}
use Rattle.paper.specs.declared.FieldsAnswer.{FieldsAnswer}
use Rattle.paper.specs.Refused.{verdict_of}
use Rattle.paper.specs.View.{table_of}
use Rattle.paper.specs.Fields.{Read, answer_by, slots_of, fields_answer, refused}
use Rattle.fields.proofs.Kept.{empty_table}
use Rattle.fields.proofs.read_fields.Goals as goal

pub returns-in-Ok : goal.returns-in-Ok
unfolding fields_answer table_of
returns-in-Ok c =
    let h = c.in-Ok.ensures in
    sym (λ i. record {
      number = (h.0 i).number;
      place = (h.0 i).place;
      table = sym h.1 i;
      arrivals = 9 * (sym h.1 i).count;
      slots = slots_of (sym h.2 i);
    })

pub returns-in-Err : goal.returns-in-Err
unfolding fields_answer
returns-in-Err c =
    let v = c.from-number.ensures in
    let none = empty_table c.default.result c.default.ensures in
    let told : ◌≡◌ {A = FieldsAnswer} (record { number = c.from-number.result.number; place = c.from-number.result.place; table = c.default.result; arrivals = 0; slots = 0 }) (answer_by (refused (verdict_of c.in-Err.refusal))) =
    λ i. record { number = (v i).number; place = (v i).place; table = none i; arrivals = 0; slots = 0 } in
    told ∙ ap (λ (r : Read). answer_by r) (sym c.in-Err.ensures)
