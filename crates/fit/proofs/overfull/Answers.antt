use native.Mathlib.Omega.{arith}
use Rattle.std.proofs.Common.{rules, ◌+◌, ◌≤◌, length, take}
use native.Mathlib.Nat.{mod-lt}
use Rattle.theory.specs.Ready.{ready_pos}
use Rattle.fit.proofs.Over.{below, in_places, in_slots, long_k, long_y, later_left, left_most, none_is, reaches, first-is}
use Rattle.fit.proofs.overfull.Goals as goal

pub offset_of-offset-requires : goal.offset_of-offset-requires
offset_of-offset-requires c = ready_pos c.args.w.ready

pub invariant_of-m : goal.invariant_of-m
invariant_of-m c = record { inside = rw c.offset_of-offset.ensures (mod-lt c.args.s.now.0 (ready_pos c.args.w.ready)) }

pub slice_bounds-places-end : goal.slice_bounds-places-end
slice_bounds-places-end c = long_k c.args.w c.args.s c.args.made c.args.k.now c.args.y.now c.requires

pub slice_bounds-entries-end : goal.slice_bounds-entries-end
slice_bounds-entries-end c = long_y c.args.w c.args.s c.args.made c.args.k.now c.args.y.now c.requires

pub offset_bounds-entries-here : goal.offset_bounds-entries-here
offset_bounds-entries-here c = omega (arith, below c.args.w c.args.s c.args.made c.args.k.now c.args.y.now c.requires)

pub bounds-entries-here : goal.bounds-entries-here
bounds-entries-here c = omega (arith, in_slots c.args.w c.args.s c.args.made c.args.k.now c.args.y.now c.requires)

pub overflow_add-here : goal.overflow_add-here
overflow_add-here c = omega (arith, below c.args.w c.args.s c.args.made c.args.k.now c.args.y.now c.requires)

pub offset_bounds-places-here : goal.offset_bounds-places-here
offset_bounds-places-here c = omega (arith, below c.args.w c.args.s c.args.made c.args.k.now c.args.y.now c.requires)

pub slice_bounds-first_over-count : goal.slice_bounds-first_over-count
slice_bounds-first_over-count c = omega (arith, in_places c.args.w c.args.s c.args.made c.args.k.now c.args.y.now c.requires)

pub slice_bounds-first_over-start : goal.slice_bounds-first_over-start
slice_bounds-first_over-start c = let in_k : c.args.made.here + 1 ≤ length (take c.args.made.places c.args.k.now) = omega (arith, in_places c.args.w c.args.s c.args.made c.args.k.now c.args.y.now c.requires) in search (rules, in_k)

pub overflow_sub-later : goal.overflow_sub-later
overflow_sub-later c = omega (arith, later_left c.args.w c.args.s c.args.made c.args.k.now c.args.y.now c.requires)

pub overflow_add-all-2 : goal.overflow_add-all-2
overflow_add-all-2 c =
    let w = c.args.w.ready.short in
    omega (arith, left_most c.args.w c.args.s c.args.made c.args.k.now c.args.y.now c.requires, c.above.ensures.1, c.offset_of-offset.ensures)

pub returns-then-all-later : goal.returns-then-all-later
returns-then-all-later c =
    none_is c.args.w c.args.s c.args.made c.args.k.now c.args.y.now c.requires c.offset_of-offset.result.0 c.above.result c.offset_of-offset.ensures c.above.ensures.0 c.if-all-later.true

pub first_over-requires : goal.first_over-requires
first_over-requires c =
    reaches c.args.w c.args.s c.args.made c.args.k.now c.args.y.now c.requires c.offset_of-offset.result.0 c.above.result c.offset_of-offset.ensures c.above.ensures.0

pub returns : goal.returns
returns c =
    first-is c.args.w c.args.s c.args.made c.args.k.now c.args.y.now c.requires c.offset_of-offset.result.0 c.above.result c.offset_of-offset.ensures c.above.ensures.0 c.first_over.result c.first_over.ensures
