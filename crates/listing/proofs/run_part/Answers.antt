use mathlib.Core.Path.{sym, ◌∙◌}
use native.Mathlib.Omega.{arith}
use Rattle.listing.specs.Run.{Outcome, part}
use Rattle.listing.specs.Part.{goes, is_over, is_full, lines_none, line-fewer, line-inside, line-more}
use Rattle.listing.proofs.run_part.Goals as goal

pub loop-s-smaller : goal.loop-s-smaller
loop-s-smaller c =
    let l = c.loop-s in
    let o : Outcome = record { running = l.s; out = l.out } in
    line-fewer _ o _ (goes o c.loop-s-test.true (omega arith)) c.turn-s.ensures

pub loop-s-preserved : goal.loop-s-preserved
loop-s-preserved c =
    let l = c.loop-s in
    let o : Outcome = record { running = l.s; out = l.out } in
    let on = goes o c.loop-s-test.true (omega arith) in
    let t = c.turn-s in record {
      same = sym (line-more _ o _ on t.ensures) ∙ l.invariant.same;
      room = t.auto.out ∙ l.invariant.room;
      inside = line-inside _ o _ on t.ensures l.invariant.inside;
    }

pub returns-else-out-s-ge80 : goal.returns-else-out-s-ge80
unfolding part
returns-else-out-s-ge80 c =
    let l = c.loop-s in
    let o : Outcome = record { running = l.s; out = l.out } in
    sym (lines_none _ o (is_full o (omega arith))) ∙ l.invariant.same

pub returns-after-loop-s : goal.returns-after-loop-s
unfolding part
returns-after-loop-s c =
    let l = c.loop-s in
    let o : Outcome = record { running = l.s; out = l.out } in
    sym (lines_none _ o (is_over o c.loop-s-test.false)) ∙ l.invariant.same
