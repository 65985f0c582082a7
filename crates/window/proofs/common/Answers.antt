use Rattle.window.proofs.Euclid.{gcd-step, gcd-end}
use Rattle.paper.specs.Window.{gcd}
use native.Mathlib.Nat.{mod-lt}
use mathlib.Core.Path.{◌≡◌, sym, ap, ◌∙◌}
use native.Mathlib.Omega.{arith}
use Rattle.window.proofs.common.Goals as goal

pub loop-y-smaller : goal.loop-y-smaller
loop-y-smaller c = mod-lt c.loop-y.x {m = c.loop-y.y} c.loop-y-test.true

pub loop-y-preserved : goal.loop-y-preserved
loop-y-preserved c = gcd-step c.loop-y.x c.loop-y.y c.loop-y-test.true ∙ c.loop-y.invariant

pub returns : goal.returns
returns c =
    let end : c.loop-y.y ≡ 0 = omega arith in
    sym (gcd-end c.loop-y.x) ∙ ap (gcd c.loop-y.x) (sym end) ∙ c.loop-y.invariant
