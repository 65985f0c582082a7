use native.Mathlib.Omega.{arith}
use Rattle.std.proofs.lemmas.Result.{err_from_is_err_and}
use Rattle.state.specs.Shaped.{shape_bounds}
use Rattle.theory.specs.States.{Arrays, shape}
use Rattle.theory.specs.Said.{passed_number}
use Rattle.vectors.specs.Eight.{eight_after_six}
use Rattle.vectors.proofs.Order.{said_six, said_7, said_8, pass_8}
use Rattle.vectors.proofs.judge_state.Goals.{In_ok-judged}
use Rattle.vectors.proofs.judge_state.Goals as goal

arrays : (c : In_ok-judged) → Arrays c.args.t c.args.s
arrays c = record {
  tasks = omega (arith, c.well_formed.0);
  requests = omega (arith, c.well_formed.1.0);
  jobs = omega (arith, c.well_formed.1.0);
}

pub returns-in_err-judged : goal.returns-in_err-judged
returns-in_err-judged c =
    let p = err_from_is_err_and c.from_residual.result c.from_residual.ensures.1 in
    rw (p.1, p.2) (said_six c.args.t c.args.s c.args.shortest c.in_err-judged.field-0.0 c.in_err-judged.ensures.says)

pub returns-in_err-shape : goal.returns-in_err-shape
returns-in_err-shape c =
    let j = c.in_ok-judged.ensures.says in
    let p = err_from_is_err_and c.from_residual-in_err-shape.result c.from_residual-in_err-shape.ensures.1 in
    rw (p.1, p.2) (said_7 c.args.t c.args.s c.args.shortest j.0 c.in_err-shape.field-0.0 (rw j.1.table_is at c.in_err-shape.ensures.says))

pub late-requires : goal.late-requires
late-requires c =
    let j = c.in_ok-judged.ensures.says in
    let r = rw j.1.table_is at c.in_ok-judged.judged.checked.ready in
    shape_bounds (shape r (arrays (goal.at.late-requires c).In_ok-judged) (passed_number (rw j.1.table_is at c.in_ok-shape.ensures.says.0)))

pub returns-in_err-late : goal.returns-in_err-late
returns-in_err-late c =
    let j = c.in_ok-judged.ensures.says in
    let p = err_from_is_err_and c.from_residual-in_err-late.result c.from_residual-in_err-late.ensures.1 in
    rw (p.1, p.2)
    (said_8 c.args.t c.args.s c.args.shortest j.0 (rw j.1.table_is at c.in_ok-shape.ensures.says.0) c.in_err-late.field-0.0 (rw j.1.table_is at c.in_err-late.ensures.says))

pub returns : goal.returns
returns c =
    let j = c.in_ok-judged.ensures.says in
    let seven = rw j.1.table_is at c.in_ok-shape.ensures.says.0 in
    let eight = rw j.1.table_is at c.in_ok-late.ensures.says.0 in
    (pass_8 c.args.t c.args.s c.args.shortest j.0 seven eight, eight_after_six c.args.t c.args.s c.args.shortest _ j.1 (arrays (goal.at.returns c).In_ok-judged) seven eight)
