use mathlib.Core.Path.{◌≡◌, sym}
use mathlib.Core.List.{◌++◌}
use native.Mathlib.Omega.{arith}
use denote.Struct.Field.{u16-field}
use lib.ListN.{length, drop, length-map, take-append-drop}
use Rattle.theory.specs.Lasts.{periods, lowered}
use Rattle.theory.specs.Lent.{put_before}
use Rattle.paper.specs.contracts.Task as J
use Rattle.paper.specs.View.{tasks_of}
use Rattle.moving.specs.Passed.{passed}
use Rattle.theory.specs.Scan.{Left, from, from_none}
use Rattle.moving.proofs.Walk.{lowered-before, passed-before}
use Rattle.moving.proofs.deadlines.down.Goals as goal

pub loop-i-init : goal.loop-i-init
unfolding periods lowered passed
loop-i-init c =
    let a = c.args in
    let n = a.t.count in
    let none = from_none a.t.tasks n in
    (rw none (sym (take-append-drop n a.s.lasts)), rw none (omega arith), omega arith)

pub loop-i-preserved : goal.loop-i-preserved
loop-i-preserved c =
    let a = c.args in
    let l = c.loop-i in
    let e = length-map a.t.tasks (J.the_type).to in
    let long : length a.t.tasks ≡ 16 = omega arith in
    let ds = a.s.lasts in
    let f = length-map ds u16-field.into in
    let long-ds : length ds ≡ 16 = omega arith in
    let long-ls : length a.lefts ≡ 16 = omega arith in
    let n = a.t.count in
    let few = c.requires.0 in
    let left : Left a.t.tasks n l.i = (omega arith, omega arith, omega arith) in
    let left-ls : Left a.lefts n l.i = (omega arith, omega arith, omega arith) in
    let left-ds : Left ds n l.i = (omega arith, omega arith, omega arith) in
    let rest = lowered a.k (periods (from a.t.tasks n l.i)) (from ds n l.i) ++ drop n ds in (
      rw (l.invariant.0, c.lowered.ensures, lowered-before a.t.tasks ds n l.i left left-ds a.k)
          (put_before ds rest l.i 0 _ (omega arith) (omega arith)),
      omega (arith, c.work_at-above.ensures.0, l.invariant.1, passed-before a.t.tasks ds n l.i left left-ds a.k a.ahead a.lefts left-ls),
      omega (arith, c.work_at-above.ensures.1, l.invariant.2),
    )

pub returns : goal.returns
unfolding tasks_of
returns c =
    let l = c.loop-i in
    let end : l.i ≡ 0 = omega arith in
    let e = length-map c.args.t.tasks (J.the_type).to in
    record {
      lowers = rw (l.invariant.0, end);
      adds = rw (l.invariant.1, end);
      most = omega (arith, l.invariant.2, c.requires.0);
      sixteen = omega arith;
    }
