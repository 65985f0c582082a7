use mathlib.Core.Path.{sym, ◌∙◌}
use native.Mathlib.Omega.{arith}
use Rattle.fit.proofs.Jobs.{wrong_here, right_here, none_wrong}
use Rattle.fit.proofs.first_wrong.Goals as goal

pub returns-then-is_wrong : goal.returns-then-is_wrong
returns-then-is_wrong c ts ls h =
    let a = c.args in
    let l = c.loop-i in
    rw (l.invariant.1 ts ls h
    ∙ wrong_here ts ls a.at.0 l.i l.work a.jobs.now c.loop-i-test.true (sym (c.is_wrong.ensures ts ls h) ∙ c.if-is_wrong.true))

pub loop-i-preserved : goal.loop-i-preserved
loop-i-preserved c =
    let a = c.args in
    let l = c.loop-i in
    let few = c.requires.n_bound.1 l.i c.loop-i-test.true in (
      omega arith,
      λ ts ls h.
          l.invariant.1 ts ls h
          ∙ right_here ts ls a.at.0 l.i l.work a.jobs.now c.loop-i-test.true (sym (c.is_wrong.ensures ts ls h) ∙ c.if-is_wrong.false),
    )

pub returns : goal.returns
returns c ts ls h =
    let a = c.args in
    let l = c.loop-i in
    rw (l.invariant.1 ts ls h ∙ none_wrong ts ls a.at.0 l.i l.work a.jobs.now (omega arith))
