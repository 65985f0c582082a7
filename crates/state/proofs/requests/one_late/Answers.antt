use Rattle.std.proofs.Common.{◌≡◌, sym, ◌-◌, arith}
use Rattle.state.proofs.Walks.{late_none, late_before}
use Rattle.theory.specs.Scan.{Left}
use Rattle.theory.specs.Limits.{good_at}
use Rattle.paper.specs.View.{tasks_of}
use Rattle.state.proofs.requests.one_late.Goals as goal

pub loop-i-init : goal.loop-i-init
loop-i-init c =
    let a = c.args in
    sym (late_none a.t.table.tasks a.requests.now a.t.table.count a.now.0 a.at.0)

pub is_late-requires-clause-good : goal.is_late-requires-clause-good
is_late-requires-clause-good c =
    let l = c.args.t.limits in
    let few = l.few in
    good_at l (c.loop-i.i - 1) (omega arith) (omega arith)

pub loop-i-preserved-then-is_late : goal.loop-i-preserved-then-is_late
loop-i-preserved-then-is_late c =
    let a = c.args in
    let t = a.t.table in
    let l = c.loop-i in
    let few = a.t.limits.few in
    let left : Left t.tasks t.count l.i = omega arith in
    rw (late_before t.tasks a.requests.now t.count l.i left (omega arith) a.now.0 a.at.0, ← c.is_late.ensures, c.if-is_late.true)

pub loop-i-preserved : goal.loop-i-preserved
loop-i-preserved c =
    let a = c.args in
    let t = a.t.table in
    let l = c.loop-i in
    let few = a.t.limits.few in
    let left : Left t.tasks t.count l.i = omega arith in
    rw (late_before t.tasks a.requests.now t.count l.i left (omega arith) a.now.0 a.at.0, ← c.is_late.ensures, c.if-is_late.false) l.invariant

pub returns : goal.returns
unfolding tasks_of
returns c =
    let end : c.loop-i.i ≡ 0 = omega arith in
    rw (c.loop-i.invariant, end)
