-- The promise is the paper's: in the present window where enough is left of it, else in a later one.
use mathlib.Core.Path.{◌≡◌, ◌∙◌}
use Prim.Native.Nat.{◌%◌}
use native.Mathlib.Omega.{arith}
use Rattle.promise.proofs.Formula.{in_window_is, in_later_is}
use Rattle.promise.proofs.Vectors.promise_for.Goals.{After-start_of-start}
use Rattle.promise.proofs.Vectors.promise_for.Goals as goal

-- what stands in front has the same window, so the same offset
offset : (c : After-start_of-start) → c.offset_of-v.result.0 ≡ c.args.at.0 % c.in_front-front.result.made.window
offset c = rw c.in_front-front.ensures.numbers c.offset_of-v.ensures

pub returns-then-need-self : goal.returns-then-need-self
returns-then-need-self c ts ls h =
    let f = c.in_front-front.ensures in
    let x = f.holds ts ls c.args.at.0 h in
    let o = offset (goal.at.returns-then-need-self c).After-start_of-start in
    let p = in_window_is ts ls _ c.args.need _ c.in_front-front.result.made _ _ _ o x.numbers x.in_k x.in_d x.in_y c.requires.le_idle.1.some (rw f.numbers c.if-need-self.true) in
    omega (arith, p, c.slot_at.ensures, c.start_of-start.ensures, c.in_window-end.ensures.0)

pub returns : goal.returns
returns c ts ls h =
    let f = c.in_front-front.ensures in
    let x = f.holds ts ls c.args.at.0 h in
    let o = offset (goal.at.returns c).After-start_of-start in
    let p = in_later_is ts ls _ c.args.need _ c.in_front-front.result.made _ _ _ o x.numbers x.in_k x.in_d x.in_y (rw f.numbers c.if-need-self.false) in
    c.in_later.ensures ∙ rw (c.start_of-start.ensures, f.numbers) (rw f.numbers at p)
