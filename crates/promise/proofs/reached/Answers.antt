use Rattle.std.proofs.Common.{rules, arith, sym, ◌∙◌}
use Rattle.std.proofs.lemmas.Slice.Zip.{either_empty_from_Zip}
use Rattle.std.specs.Iterator.Adapters.{zip_first, zip_second}
use Rattle.std.specs.Slice.Iter.{iter_rest}
use Rattle.promise.proofs.Running.{reach_here, reach-on, reach-end}
use Rattle.promise.proofs.reached.Goals as goal

pub returns-then-need-sum : goal.returns-then-need-sum
returns-then-need-sum c =
    let l = c.loop-time in
    let h = c.in-Some.ensures.steps in
    let ks = iter_rest (zip_first c.next.new.self) in
    let ys = iter_rest (zip_second c.next.new.self) in (
      rw (l.invariant.1, h.0, h.1, reach_here c.in-Some.time.now c.in-Some.entry.now l.sum c.args.need ks ys (omega arith) (omega arith)) (omega arith),
      omega arith,
    )

pub loop-time-preserved : goal.loop-time-preserved
loop-time-preserved c =
    let ks = iter_rest (zip_first c.next.new.self) in
    let ys = iter_rest (zip_second c.next.new.self) in
    let e = reach-on c.in-Some.time.now c.in-Some.entry.now c.loop-time.sum c.args.need ks ys (omega arith) in
    search (rules, e)

pub returns : goal.returns
returns c =
    let l = c.loop-time in
    let end = either_empty_from_Zip l.time-iterator c.next.new.self _ c.in-None.is c.next.ensures.steps in
    (sym (l.invariant.1 ∙ reach-end (iter_rest (zip_first l.time-iterator)) (iter_rest (zip_second l.time-iterator)) l.sum c.args.need end), omega arith)
