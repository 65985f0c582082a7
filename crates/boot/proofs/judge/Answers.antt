-- A refusal of the fields is told as it is; a file that is read is judged by its table.
use Rattle.std.proofs.Common.{◌≡◌, sym, ap, ◌∙◌, arith}
use Rattle.paper.specs.declared.Table.{Table}
use Rattle.paper.specs.declared.Verdict.{Verdict}
use Rattle.paper.specs.declared.BootAnswer.{BootAnswer}
use Rattle.paper.specs.Window.{window}
use Rattle.paper.specs.View.{tasks_of}
use Rattle.boot.proofs.Boots.{refused_by, by_fields, by_table, accepted}
use Rattle.boot.proofs.judge.Goals as goal

pub returns-then-v-ne0 : goal.returns-then-v-ne0
returns-then-v-ne0 c = let a = c.args in c.refused.ensures ∙ sym (by_fields a.v a.t (omega (arith, c.if-v-ne0.true)))

pub returns-in-Ok : goal.returns-in-Ok
returns-in-Ok c =
    let a = c.args in
    let j = c.in-Ok.judged in
    let w : j.checked.window ≡ window (tasks_of a.t) =
    j.checked.ready.is_window ∙ ap (λ (t : Table). window (tasks_of t)) c.in-Ok.ensures.says.1.table_is in
    let told : ◌≡◌ {A = BootAnswer} (record { number = 0; place = 0; window = j.checked.window }) (record { number = 0; place = 0; window = window (tasks_of a.t) }) =
    λ i. record { number = 0; place = 0; window = w i } in
    told ∙ sym (accepted a.v a.t c.if-v-ne0.false c.in-Ok.ensures.says.0)

pub returns-in-Err : goal.returns-in-Err
returns-in-Err c =
    let a = c.args in
    c.refused-in-Err.ensures ∙ ap (λ (v : Verdict). refused_by v) c.from.ensures ∙ sym (by_table a.v a.t c.if-v-ne0.false c.in-Err.refusal c.in-Err.ensures.says)
