use Rattle.std.specs.Prelude.{◌≡◌, ◌-◌, cond, ltb}
use Rattle.std.proofs.Common.{Some, arith}
use borrow.Author.Tests.{lt-ltb, le-ltb}
use Rattle.places.specs.Stands.{Stands, place_up}
use Rattle.places.proofs.Over.{come_start, come_more, come_end, come_many, above_most, all_most}
use Rattle.places.proofs.count_places.Goals.{After-down-s, then-k-all, else-k-all}
use Rattle.places.proofs.count_places.Goals as goal

pub loop-s-init : goal.loop-s-init
loop-s-init c = (omega arith, come_start _ _ c.start-s.result c.start-s.ensures)

pub returns-then-places-eq1024 : goal.returns-then-places-eq1024
returns-then-places-eq1024 c = come_many _ _ _ _ _ c.loop-s.invariant.1 (omega arith) (omega arith)

pub overflow_sub-all : goal.overflow_sub-all
overflow_sub-all c = omega (arith, above_most _ _ _ _ _ c.loop-s.invariant.1, c.work_of-all.ensures)

pub down-s-requires : goal.down-s-requires
down-s-requires c = omega (arith, above_most _ _ _ _ _ c.loop-s.invariant.1, all_most _ _ _ _ _ c.loop-s.invariant.1)

-- the walk stands one place lower
lower : (c : After-down-s) → Stands c.args.w.within.table c.args.w.window (c.loop-s.s.place - 1) c.down-s.result
lower c = let x = c.loop-s.invariant.1 in c.down-s.ensures _ _ x.time c.of-rows.ensures x.stands (omega arith)

pub loop-s-smaller : goal.loop-s-smaller
loop-s-smaller c = omega (arith, place_up _ _ _ _ (lower (goal.at.loop-s-smaller c).After-down-s))

-- which of the two is found
found : (c : After-down-s)
    → c.if-k-all.over ≡ cond (ltb c.loop-s.s.place (c.work_of-all.result - c.loop-s.s.above)) (Some c.loop-s.s.place) c.loop-s.over
found c =
    elim c.if-k-all.branch [
      | then-k-all v ↦ rw (v.over-is, lt-ltb c.loop-s.s.place (c.work_of-all.result - c.loop-s.s.above) (omega arith))
      | else-k-all v ↦ rw (v.over-is, le-ltb c.loop-s.s.place (c.work_of-all.result - c.loop-s.s.above) (omega arith))
    ]

pub loop-s-preserved : goal.loop-s-preserved
loop-s-preserved c =
    let p = (goal.at.loop-s-preserved c).After-down-s in
    (omega arith, come_more _ _ _ _ _ c.loop-s.invariant.1 c.work_of-all.result _ _ _ c.work_of-all.ensures (omega arith) (found p) (omega arith) (lower p))

pub returns : goal.returns
returns c = come_end _ _ _ _ _ c.loop-s.invariant.1 (omega arith) c.loop-s.invariant.0
