-- One admission more, and none that is left.
use Rattle.std.proofs.Common.{◌-◌, ◌+◌, sym, ap, ◌∙◌, arith}
use Rattle.paper.specs.Calls.{AdmissionOutcome}
use Rattle.benched.specs.Stand.{leaves, admitted}
use Rattle.benched.proofs.Steps.{one_admitted, none_admitted}
use Rattle.benched.proofs.admissions.Goals as goal

pub loop-preserved : goal.loop-preserved
loop-preserved c =
    let l = c.loop in
    let g = c.args in
    ap (λ (o : AdmissionOutcome). admitted (g.jobs - (l.counter + 1)) g.t g.work (leaves o)) c.admit.ensures
    ∙ sym (one_admitted (g.jobs - l.counter) (g.jobs - (l.counter + 1)) (omega arith) g.t g.work (record { state = l.s; k = l.k; d = l.d; y = l.y }))
    ∙ l.invariant

pub returns : goal.returns
returns c =
    let l = c.loop in
    let g = c.args in
    sym (none_admitted (g.jobs - l.counter) (omega arith) g.t g.work (record { state = l.s; k = l.k; d = l.d; y = l.y })) ∙ l.invariant
