-- One slot more, and none that is left.
use Rattle.std.proofs.Common.{◌-◌, ◌+◌, sym, ap, ◌∙◌, arith}
use Rattle.paper.specs.declared.SlotAnswer.{SlotAnswer}
use Rattle.benched.specs.Stand.{ran}
use Rattle.benched.proofs.Steps.{one_ran, none_ran}
use Rattle.benched.proofs.run_slots.Goals as goal

pub loop-preserved : goal.loop-preserved
loop-preserved c =
    let l = c.loop in
    let g = c.args in
    ap (λ (a : SlotAnswer). ran (g.slots - (l.counter + 1)) g.t a.state) c.slot.ensures.answer
    ∙ sym (one_ran (g.slots - l.counter) (g.slots - (l.counter + 1)) (omega arith) g.t l.s)
    ∙ l.invariant

pub returns : goal.returns
returns c =
    let l = c.loop in
    sym (none_ran (c.args.slots - l.counter) (omega arith) c.args.t l.s) ∙ l.invariant
