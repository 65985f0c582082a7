-- The refusals in their order.
use Rattle.std.proofs.Common.{arith}
use Rattle.std.proofs.lemmas.Result.{err_from_is_err_and}
use Rattle.theory.specs.States.{Arrays, shape}
use Rattle.slot.proofs.Chain.{verdict_table, verdict_shape, verdict_clock, verdict_late}
use Rattle.slot.proofs.ran.Goals as goal

pub returns-in_err-w : goal.returns-in_err-w
returns-in_err-w c =
    let p = err_from_is_err_and c.from_residual.result c.from_residual.ensures.1 in
    rw (p.1, p.2) (verdict_table c.args.t c.args.s c.in_err-w.field-0.0 c.in_err-w.ensures.says)

pub returns-in_err-shape : goal.returns-in_err-shape
returns-in_err-shape c =
    let e = c.in_ok-w.ensures.says in
    let p = err_from_is_err_and c.from_residual-in_err-shape.result c.from_residual-in_err-shape.ensures.1 in
    rw (p.1, p.2) (verdict_shape c.args.t c.args.s e.0 c.in_err-shape.field-0.0 (rw e.1 at c.in_err-shape.ensures.says))

pub returns-then-s-ge-CLOCK_END : goal.returns-then-s-ge-CLOCK_END
returns-then-s-ge-CLOCK_END c =
    let e = c.in_ok-w.ensures.says in
    verdict_clock c.args.t c.args.s e.0 (rw e.1 at c.in_ok-shape.ensures.says.0) c.if-s-ge-CLOCK_END.true

pub run-requires-clause-shape : goal.run-requires-clause-shape
run-requires-clause-shape c =
    let arrays : Arrays c.in_ok-w.w.within.table c.args.s = record { tasks = omega arith; requests = omega arith; jobs = omega arith } in
    let e = c.in_ok-shape.ensures.says.0 in
    shape c.in_ok-w.w.ready arrays (rw e)

pub returns : goal.returns
returns c =
    let e = c.in_ok-w.ensures.says in
    rw (verdict_late c.args.t c.args.s e.0 (rw e.1 at c.in_ok-shape.ensures.says.0) (omega arith)) (rw e.1 at c.run.ensures)
