-- Refusals 1 to 3, in this order, and what a table that passes them keeps.
use Rattle.std.proofs.Common.{sym, ◌∙◌}
use Rattle.std.proofs.lemmas.Result.{err_from_is_err_and}
use Rattle.window.specs.Judged.{judged-verdict}
use Rattle.window.proofs.Tested.{said_two, said_three, is_ready}
use Rattle.window.proofs.judge.Goals as goal

pub returns-in_err-within-clause-says : goal.returns-in_err-within-clause-says
returns-in_err-within-clause-says c =
    let p = err_from_is_err_and c.from_residual.result c.from_residual.ensures.1 in
    rw (p.1, p.2) (said_two c.args.t c.in_err-within.field-0.0 c.in_err-within.ensures.says)

pub returns-in_err-within-clause-verdict : goal.returns-in_err-within-clause-verdict
returns-in_err-within-clause-verdict c = sym (judged-verdict c.args.t c.from_residual.result (returns-in_err-within-clause-says c))

pub returns-in_err-window-clause-says : goal.returns-in_err-window-clause-says
returns-in_err-window-clause-says c =
    let e = c.in_ok-within.ensures.says in
    let p = err_from_is_err_and c.from_residual-in_err-window.result c.from_residual-in_err-window.ensures.1 in
    rw (p.1, p.2) (said_three c.args.t e.0 ∙ rw e.1 at c.in_err-window.ensures)

pub returns-in_err-window-clause-verdict : goal.returns-in_err-window-clause-verdict
returns-in_err-window-clause-verdict c = sym (judged-verdict c.args.t c.from_residual-in_err-window.result (returns-in_err-window-clause-says c))

pub invariant_of-result : goal.invariant_of-result
invariant_of-result c =
    record { ready = is_ready c.in_ok-within.within.table c.in_ok-window.window c.in_ok-within.within.limits c.in_ok-window.ensures.0 c.in_ok-window.ensures.1 }

pub returns-clause-says : goal.returns-clause-says
returns-clause-says c =
    let e = c.in_ok-within.ensures.says in
    (said_three c.args.t e.0 ∙ rw e.1 at c.in_ok-window.ensures.0, e.1)

pub returns-clause-verdict : goal.returns-clause-verdict
returns-clause-verdict c = sym (returns-clause-says c).0
