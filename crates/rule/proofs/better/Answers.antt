-- A finished request changes nothing; an unfinished one is first if it goes before what is best so far.
use Rattle.std.proofs.Common.{◌≡◌, arith, add-one, le-leb}
use Rattle.paper.specs.Demand.{present_due}
use Rattle.rule.proofs.Firsts.{found_done}
use Rattle.rule.proofs.better.Goals as goal

pub returns-then-left-lt1-clause-found : goal.returns-then-left-lt1-clause-found
returns-then-left-lt1-clause-found c =
    let a = c.args in
    let z : c.left-left.result ≡ 0 = omega arith in
    rw (← c.left-left.ensures, z) (found_done a.best a.at a.t a.v.0)

pub returns-clause-found : goal.returns-clause-found
unfolding present_due
returns-clause-found c =
    rw (← c.left-left.ensures, le-leb 1 _ c.if-left-lt1.false, ← c.due_at-due.ensures, c.sooner.ensures, c.due_by.ensures.value, add-one)
