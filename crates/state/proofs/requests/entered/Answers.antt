use Rattle.std.proofs.Common.{◌≡◌, sym, ◌∙◌, ◌++◌, ◌-◌, arith, drop, take-append-drop}
use Rattle.state.proofs.Walks.{enter-none, enter-before, keep_entered}
use Rattle.theory.specs.Scan.{Left, from}
use Rattle.theory.specs.Lent.{put_before}
use Rattle.theory.specs.Limits.{good_at}
use Rattle.paper.specs.View.{request_lefts, requests_of, no_request, tasks_of}
use Rattle.paper.specs.Rule.{enter}
use Rattle.state.proofs.requests.entered.Goals as goal

pub loop-i-init : goal.loop-i-init
loop-i-init c =
    let a = c.args in
    let t = a.t.table in
    rw (enter-none t.tasks a.requests t.count a.at.0) (sym (take-append-drop t.count a.requests))

pub is_released-requires : goal.is_released-requires
is_released-requires c =
    let l = c.args.t.limits in
    let few = l.few in
    good_at l (c.loop-i.i - 1) (omega arith) (omega arith)

pub whole-requires : goal.whole-requires
whole-requires c =
    let l = c.args.t.limits in
    let few = l.few in
    good_at l (c.loop-i.i - 1) (omega arith) (omega arith)

pub loop-i-preserved-then-is_released : goal.loop-i-preserved-then-is_released
loop-i-preserved-then-is_released c =
    let a = c.args in
    let t = a.t.table in
    let n = t.count in
    let l = c.loop-i in
    let few = a.t.limits.few in
    let left : Left t.tasks n l.i = omega arith in
    let rest = requests_of (enter (from t.tasks n l.i) a.at.0 (request_lefts (from a.requests n l.i))) ++ drop n a.requests in
    rw (l.invariant, c.whole.ensures, enter-before t.tasks a.requests n l.i left (omega arith) a.at.0, ← c.is_released.ensures, c.if-is_released.true)
    (put_before a.requests rest l.i no_request _ (omega arith) (omega arith))

pub loop-i-preserved : goal.loop-i-preserved
loop-i-preserved c =
    let a = c.args in
    let t = a.t.table in
    let n = t.count in
    let l = c.loop-i in
    let few = a.t.limits.few in
    let left : Left t.tasks n l.i = omega arith in
    let e = sym c.is_released.ensures ∙ c.if-is_released.false in
    l.invariant ∙ keep_entered t.tasks a.requests n l.i left (omega arith) a.at.0 (drop n a.requests) c.requires e

pub returns : goal.returns
unfolding tasks_of
returns c =
    let end : c.loop-i.i ≡ 0 = omega arith in
    rw (c.loop-i.invariant, end)
