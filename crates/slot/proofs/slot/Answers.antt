-- A refusal gives the old state, and what ran is what the call answers.
use Rattle.std.proofs.Common.{◌∙◌}
use Rattle.paper.specs.Refusals.{passed}
use Rattle.slot.proofs.Chain.{slot_refused, slot_by_lem, numbers_told}
use Rattle.slot.proofs.Bits.{bits_told}
use Rattle.slot.proofs.slot.Goals as goal

pub returns-in-Ok : goal.returns-in-Ok
returns-in-Ok c =
    let t = c.args.t in
    let s = c.args.s in
    let is = c.in-Ok.ensures.1 ∙ slot_by_lem t s passed c.in-Ok.ensures.0 in
    record { answer = is; numbers = numbers_told t s c.in-Ok.answer is; bits = bits_told t s c.in-Ok.answer is }

pub returns-in-Err : goal.returns-in-Err
returns-in-Err c =
    let t = c.args.t in
    let s = c.args.s in
    let is = c.refused.ensures ∙ slot_refused t s c.in-Err.r c.in-Err.ensures in
    record { answer = is; numbers = numbers_told t s c.refused.result is; bits = bits_told t s c.refused.result is }
