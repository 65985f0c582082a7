use mathlib.Core.Path.{◌≡◌, refl, sym, ap, ◌∙◌}
use mathlib.Core.List.{[], ◌++◌}
use Prim.Native.Nat.{ℕ, suc, ◌-◌, ◌≤◌, ◌<◌}
use native.Mathlib.Omega.{arith}
use lib.ListN.{length, length-set, take, drop, get_or, take-append-drop, drop_of_length-le, get_or-eq_default}
use Rattle.paper.specs.Places.{K}
use Rattle.paper.specs.Vectors.{vec, above_moving, times, sum as total}
use Rattle.theory.specs.PlaceLaws.{entry}
use Rattle.theory.specs.Lent.{vec-before, sum-before, sum-most, put_before}
use Rattle.theory.specs.Times.{here_in, time_here}
use Rattle.theory.specs.ReadyWord.{take-lefts}
use Rattle.theory.specs.States.{lefts_length}
use Rattle.moving.specs.declared.deadlines.Walk.{Walk}
use Rattle.moving.specs.Above.{tasks_at, lefts_at}
use Rattle.moving.proofs.Places.{Turn, turn_at, at_any}
use Rattle.moving.proofs.Stands.{Stands, start, next, past}
use Rattle.moving.proofs.Moment.fill_after.Goals.{In-loop-i}
use Rattle.moving.proofs.Moment.fill_after.Goals as goal

-- what every step of a turn goes by
abbrev In : Type 0
In = In-loop-i

turn : (c : In) → Turn c.args.self.now.checked.within.table c.args.self.now.checked.window c.args.self.now.v.0 (c.loop-i.i - 1) c.args.k.now
turn c =
    let a = c.args in
    let m = a.self.now in
    turn_at m.checked.within.table m.checked.window m.v.0 a.h (c.loop-i.i - 1) a.k.now m.checked.ready m.inside c.requires.k_is.is c.requires.h_value.0 (omega arith) (omega arith)

no_more : (c : In) → c.loop-i.left ≤ c.args.self.now.checked.window
no_more c =
    let m = c.args.self.now in
    let l = c.loop-i in
    let ts = tasks_at m in
    let A = above_moving ts (take m.checked.within.table.count c.lefts-lefts.result) m.v.0 m.checked.window in
    omega (arith, sum-most A m.checked.window (drop l.i (K ts)), l.invariant.2)

pub overflow_add-i-start : goal.overflow_add-i-start
overflow_add-i-start c =
    let m = c.args.self.now in
    omega (arith, here_in (tasks_at m) m.v.0, ap length c.requires.k_is.is, c.requires.h_value.0, c.requires.k_is.few)

pub loop-i-init : goal.loop-i-init
unfolding vec total
loop-i-init c =
    let a = c.args in
    let m = a.self.now in
    let t = m.checked.within.table in
    let W = m.checked.window in
    let y = m.checked.ready in
    let ts = tasks_at m in
    let ls = take t.count c.lefts-lefts.result in
    let n = length a.k.now in
    let walk : Walk = record { lasts = c.start.result.lasts; above = 0 } in
    let places : n ≡ length (K ts) = ap length c.requires.k_is.is in
    let in-h : a.h < n = omega (arith, here_in ts m.v.0, c.requires.h_value.0) in
    let none : drop n (K ts) ≡ [] = drop_of_length-le (K ts) {i = n} (omega arith) in
    let end : suc W ≡ get_or (K ts) n (suc W) = sym (get_or-eq_default (K ts) (suc W) {n = n} (omega arith)) in (
      in-h,
      refl,
      rw none,
      rw none (sym (take-append-drop n a.y.now)),
      next t W m.v.0 y m.inside ls walk n W (omega (arith, c.requires.h_value.0)) (omega arith) end (omega arith)
          (start t W m.v.0 y m.inside ls walk c.start.ensures.lasts_are refl),
      omega arith,
    )

pub overflow_sub-ahead : goal.overflow_sub-ahead
overflow_sub-ahead c = omega (arith, (turn (goal.at.overflow_sub-ahead c).In-loop-i).after)

pub idle_at-idle-requires : goal.idle_at-idle-requires
idle_at-idle-requires c =
    let few = c.requires.k_is.few in
    ((turn (goal.at.idle_at-idle-requires c).In-loop-i).inside, c.args.self.now.checked.ready.short, omega (arith, c.loop-i.invariant.5, c.down-below.ensures.most), no_more (goal.at.idle_at-idle-requires c).In-loop-i)

pub loop-i-preserved : goal.loop-i-preserved
loop-i-preserved c =
    let a = c.args in
    let m = a.self.now in
    let t = m.checked.within.table in
    let W = m.checked.window in
    let y = m.checked.ready in
    let l = c.loop-i in
    let h = turn (goal.at.loop-i-preserved c).In-loop-i in
    let ts = tasks_at m in
    let lefts = c.lefts-lefts.result in
    let ls = take t.count lefts in
    let n = length a.k.now in
    let A = above_moving ts ls m.v.0 W in
    let j = l.i - 1 in
    let k = get_or a.k.now j 0 in
    let r = c.idle_at-idle.result in
    let stands : Stands t ls W m.v.0 k l.s = rw h.is_time at l.invariant.4 in
    let e : r ≡ entry A W (get_or (K ts) j 0) (drop l.i (K ts))
    = omega (arith, c.idle_at-idle.ensures.0, stands.above_is, l.invariant.2, h.is_place, ap A h.is_place) in
    let in_K : l.i ≤ length (K ts) = omega (arith, ap length c.requires.k_is.is) in
    let long-lefts : length lefts ≡ 16 = ap length c.lefts-lefts.ensures ∙ lefts_length m.requests ∙ omega arith in
    let down = past t W m.v.0 y m.inside lefts k l.s c.down-below.result c.down-below.ensures.sixteen long-lefts h.after h.inside stands c.down-below.ensures in (
      omega arith,
      length-set l.y j r ∙ l.invariant.1,
      omega (arith, sum-before A W (K ts) l.i (omega arith) in_K),
      rw (l.invariant.3, vec-before A W (K ts) l.i (omega arith) in_K, ← e)
          (put_before a.y.now (vec A W (drop l.i (K ts)) ++ drop n a.y.now) l.i 0 r (omega arith) (omega (arith, c.requires.h_value.1))),
      next t W m.v.0 y m.inside ls c.down-below.result j (k - 1) (omega (arith, c.requires.h_value.0)) (omega arith)
          (omega (arith, at_any (K ts) j 0 (suc W) (omega arith), h.is_place, h.after)) (omega (arith, h.inside)) down,
      omega (arith, c.down-below.ensures.most, l.invariant.5),
    )

pub returns : goal.returns
returns c =
    let a = c.args in
    let m = a.self.now in
    let l = c.loop-i in
    let ts = tasks_at m in
    let same : lefts_at m ≡ take m.checked.within.table.count c.lefts-lefts.result
    = take-lefts m.checked.within.table.count m.requests ∙ ap (take m.checked.within.table.count) (sym c.lefts-lefts.ensures) in
    let end : l.i ≡ suc a.h = omega arith in
    let at-v : get_or (times ts m.v.0) (l.i - 1) 0 ≡ m.v.0
    = ap (λ (i : ℕ). get_or (times ts m.v.0) i 0) (omega (arith, c.requires.h_value.0)) ∙ time_here ts m.v.0 in
    record {
      sums = rw same (rw end at l.invariant.2);
      above_v = rw same (rw at-v at l.invariant.4.above_is);
      most = omega (arith, l.invariant.5, c.requires.k_is.few);
      filled = rw same (rw end at l.invariant.3);
    }
