use Rattle.std.proofs.Common.{◌≡◌, sym, suc, ◌-◌, arith}
use Rattle.rule.proofs.Firsts.{told_all, first-none, first-before}
use Rattle.paper.specs.View.{request_lefts, tasks_of}
use Rattle.paper.specs.Rule.{first}
use Rattle.theory.specs.Scan.{Left, from}
use Rattle.theory.specs.DueBy.{due_by}
use Rattle.theory.specs.Limits.{good_at}
use Rattle.rule.proofs.earliest.Goals as goal

pub loop-i-init : goal.loop-i-init
loop-i-init c =
    let t = c.args.t.table in
    record { best = sym (first-none t.tasks c.args.requests.now t.count c.args.v.0); soon = omega arith }

pub better-best-requires : goal.better-best-requires
better-best-requires c =
    let l = c.args.t.limits in
    let few = l.few in
    let few_left = c.loop-i.invariant.soon in
    record { good = good_at l (c.loop-i.i - 1) (omega arith) (omega arith); v_bound = c.requires; soon_bound = omega arith }

pub loop-i-preserved : goal.loop-i-preserved
loop-i-preserved c =
    let a = c.args in
    let t = a.t.table in
    let l = c.loop-i in
    let few = a.t.limits.few in
    let left : Left t.tasks t.count l.i = omega arith in
    record {
      best = rw (c.better-best.ensures.found, l.invariant.best) (first-before t.tasks a.requests.now t.count a.v.0 l.i left (omega arith));
      soon = omega (arith, c.better-best.ensures.soon, l.invariant.soon);
    }

pub returns : goal.returns
unfolding tasks_of
returns c =
    let a = c.args in
    let t = a.t.table in
    let end : c.loop-i.i ≡ 0 = omega arith in
    let ts = from t.tasks t.count 0 in
    let ls = request_lefts (from a.requests.now t.count 0) in
    rw (c.loop-i.invariant.best, end) (told_all (first ts ls a.v.0) (due_by ts ls a.v.0 (suc a.v.0)))
