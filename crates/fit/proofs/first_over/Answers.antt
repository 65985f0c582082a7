use Prim.Native.Nat.{◌+◌, ◌<◌}
use native.Mathlib.Nat.{sub-zero}
use borrow.Author.Tests.{lt-ltb}
use lib.ListN.{get_or}
use Rattle.std.proofs.lemmas.List.{drop_more}
use Rattle.moving.specs.Passed.{work_above}
use Rattle.fit.proofs.first_over.Goals as goal

pub returns-then-at-above : goal.returns-then-at-above
returns-then-at-above c =
    let a = c.args in
    let l = c.loop-place in
    let at = get_or a.places.now l.place-index 0 in
    let up : at + work_above a.m.now at < a.all = rw (← c.above.ensures.0) c.if-at-above.true in
    rw (l.invariant, drop_more a.places.now l.place-index 0 c.loop-place-test.true, lt-ltb (at + work_above a.m.now at) a.all up, sub-zero)
