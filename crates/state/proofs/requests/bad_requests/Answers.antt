use Rattle.std.proofs.Common.{◌≡◌, sym, ◌∙◌, ◌-◌, arith, length-drop, take, take_all, drop}
use Rattle.state.proofs.Walks.{bad_none, bad_before}
use Rattle.theory.specs.Scan.{Left}
use Rattle.paper.specs.View.{tasks_of}
use Rattle.state.proofs.requests.bad_requests.Goals as goal

pub loop-i-init : goal.loop-i-init
loop-i-init c =
    let t = c.args.t.table in
    let rs = c.args.requests.now in
    let rest : take (16 - t.count) (drop t.count rs) ≡ drop t.count rs = take_all _ _ (omega (arith, length-drop t.count rs)) in
    c.one_unclear-bad.ensures ∙ rw rest (sym (bad_none t.tasks rs t.count))

pub loop-i-preserved-then-bad_left : goal.loop-i-preserved-then-bad_left
loop-i-preserved-then-bad_left c =
    let t = c.args.t.table in
    let l = c.loop-i in
    let few = c.args.t.limits.few in
    let left : Left t.tasks t.count l.i = omega arith in
    rw (bad_before t.tasks c.args.requests.now t.count l.i left (omega arith), ← c.bad_left.ensures, c.if-bad_left.true)

pub loop-i-preserved : goal.loop-i-preserved
loop-i-preserved c =
    let t = c.args.t.table in
    let l = c.loop-i in
    let few = c.args.t.limits.few in
    let left : Left t.tasks t.count l.i = omega arith in
    rw (bad_before t.tasks c.args.requests.now t.count l.i left (omega arith), ← c.bad_left.ensures, c.if-bad_left.false) l.invariant

pub returns : goal.returns
unfolding tasks_of
returns c =
    let end : c.loop-i.i ≡ 0 = omega arith in
    rw (c.loop-i.invariant, end)
