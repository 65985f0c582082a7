-- Refusals 1 and 2, in this order.
use Rattle.std.proofs.Common.{refl, sym, arith}
use Rattle.theory.specs.Limits.{limits}
use Rattle.window.proofs.Tested.{no_task_lem, many_tasks_lem, said_count, bad_place, said_bad}
use Rattle.window.proofs.limits.Goals.{then-t-lt1-via-then-t-lt1, then-t-lt1-via-else-t-lt1+then-t-gt16}
use Rattle.window.proofs.limits.Goals as goal

pub returns-then-t-lt1-clause-says : goal.returns-then-t-lt1-clause-says
returns-then-t-lt1-clause-says c =
    let t = c.args.t in
    elim c.then-t-lt1.branch [
      | then-t-lt1-via-then-t-lt1 w ↦ said_count t (no_task_lem t.count (omega arith))
      | then-t-lt1-via-else-t-lt1+then-t-gt16 w ↦ said_count t (many_tasks_lem t.count (omega arith))
    ]

pub returns-then-t-lt1-clause-verdict : goal.returns-then-t-lt1-clause-verdict
returns-then-t-lt1-clause-verdict c = sym (returns-then-t-lt1-clause-says c)

pub overflow_cast-result : goal.overflow_cast-result
overflow_cast-result c = omega (arith, bad_place c.args.t c.in-Some.i (omega arith) (rw c.listed.ensures at c.in-Some.ensures))

pub overflow_add-result : goal.overflow_add-result
overflow_add-result c = omega (arith, bad_place c.args.t c.in-Some.i (omega arith) (rw c.listed.ensures at c.in-Some.ensures))

pub invariant_of-result : goal.invariant_of-result
invariant_of-result c =
    record { limits = limits c.args.t (rw (said_bad c.args.t (omega arith) (omega arith) _ (rw c.listed.ensures at c.in-None.ensures))) }

pub returns-in-Some-clause-says : goal.returns-in-Some-clause-says
returns-in-Some-clause-says c = said_bad c.args.t (omega arith) (omega arith) _ (rw c.listed.ensures at c.in-Some.ensures)

pub returns-in-Some-clause-verdict : goal.returns-in-Some-clause-verdict
returns-in-Some-clause-verdict c = sym (returns-in-Some-clause-says c)

pub returns-in-None-clause-says : goal.returns-in-None-clause-says
returns-in-None-clause-says c = (said_bad c.args.t (omega arith) (omega arith) _ (rw c.listed.ensures at c.in-None.ensures), refl)

pub returns-in-None-clause-verdict : goal.returns-in-None-clause-verdict
returns-in-None-clause-verdict c = sym (returns-in-None-clause-says c).0
