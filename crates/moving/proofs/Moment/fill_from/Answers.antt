-- The entries after place h stand; its own, for the time v, is put before them.
use mathlib.Core.Path.{◌≡◌, ap}
use Prim.Native.Nat.{suc, ◌≤◌, ◌<◌}
use native.Mathlib.Omega.{arith}
use lib.ListN.{length, drop}
use Rattle.paper.specs.Places.{K}
use Rattle.paper.specs.Vectors.{times_from, Y_from, sum as total}
use Rattle.theory.specs.PlaceLaws.{entry, vec-cons}
use Rattle.theory.specs.Lent.{sum-most}
use Rattle.theory.specs.Times.{here_in}
use Rattle.moving.specs.Above.{tasks_at}
use Rattle.moving.specs.Passed.{work_above}
use Rattle.moving.proofs.Places.{first-put}
use Rattle.moving.proofs.Moment.fill_from.Goals.{After-fill_after-f, Start}
use Rattle.moving.proofs.Moment.fill_from.Goals as goal

-- place h is one of them
in-n : (c : Start) → c.args.h < length c.args.k.now
in-n c =
    let m = c.args.self.now in
    omega (arith, here_in (tasks_at m) m.v.0, ap length c.requires.k_is.is, c.requires.h_value.0)

-- the places after it have no more idle slots than the window
no_more : (c : After-fill_after-f) → c.fill_after-f.result.left ≤ c.args.self.now.checked.window
no_more c =
    let m = c.args.self.now in
    omega (arith, c.fill_after-f.ensures.sums, sum-most (work_above m) m.checked.window (drop (suc c.args.h) (K (tasks_at m))))

pub idle_at-idle-requires : goal.idle_at-idle-requires
idle_at-idle-requires c =
    let m = c.args.self.now in
    (omega (arith, m.inside), m.checked.ready.short, c.fill_after-f.ensures.most, no_more (goal.at.idle_at-idle-requires c).After-fill_after-f)

pub offset_bounds-y-h : goal.offset_bounds-y-h
offset_bounds-y-h c = omega (arith, in-n (goal.at.offset_bounds-y-h c).Start, c.requires.k_is.few)

pub bounds-y-h : goal.bounds-y-h
bounds-y-h c =
    omega (arith, c.fill_after-f.auto, in-n (goal.at.bounds-y-h c).Start, c.requires.h_value.1)

pub returns : goal.returns
unfolding Y_from times_from total
returns c =
    let a = c.args in
    let m = a.self.now in
    let W = m.checked.window in
    let A = work_above m in
    let ks = drop (suc a.h) (K (tasks_at m)) in
    let f = c.fill_after-f.ensures in
    let e : c.idle_at-idle.result ≡ entry A W m.v.0 ks = omega (arith, c.idle_at-idle.ensures.0, f.above_v, f.sums) in
    rw (← m.checked.ready.is_window, ← c.requires.h_value.0) (
      rw (vec-cons A W m.v.0 ks) (omega (arith, f.sums)),
      first-put A W m.v.0 a.h (length a.k.now) c.idle_at-idle.result ks a.y.now _ e (omega (arith, in-n (goal.at.returns c).Start, c.requires.h_value.1)) f.filled,
    )
