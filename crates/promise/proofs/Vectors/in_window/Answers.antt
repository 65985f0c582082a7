-- Place h stands for the offset itself; after it the running sum goes on.
use mathlib.Core.Path.{◌≡◌, sym, ◌∙◌}
use Prim.Native.Nat.{suc, ◌+◌}
use native.Mathlib.Omega.{arith}
use lib.ListN.{drop, get_or}
use Rattle.promise.proofs.Running.{place_next, rest, reach_here, reach-on}
use Rattle.promise.proofs.Vectors.in_window.Goals as goal

pub returns-then-need-idle : goal.returns-then-need-idle
returns-then-need-idle c =
    let a = c.args in
    let k = a.self.now.k.now in
    let y = a.self.now.y.now in
    let h = a.self.now.made.here in
    let lent = a.self.now.lent in (
      sym (
          rw (place_next y h (omega (arith, lent)))
          (reach_here a.v.0 (get_or y h 0) 0 a.need (drop (suc h) k) (drop (h + 1) y) (omega arith) (omega arith) ∙ omega arith)
          ),
      omega arith,
    )

pub returns : goal.returns
returns c =
    let a = c.args in
    let k = a.self.now.k.now in
    let y = a.self.now.y.now in
    let h = a.self.now.made.here in
    let lent = a.self.now.lent in
    let e : h + 1 ≡ suc h = omega arith in
    let z : 0 + get_or y h 0 ≡ get_or y h 0 = omega arith in (
      c.reached.ensures.0
          ∙ rw (rest k (h + 1), rest y (h + 1))
          (sym (
          rw (place_next y h (omega (arith, lent)))
          (reach-on a.v.0 (get_or y h 0) 0 a.need (drop (suc h) k) (drop (h + 1) y) (omega arith) ∙ rw (z, e))
          )),
      c.reached.ensures.1,
    )
