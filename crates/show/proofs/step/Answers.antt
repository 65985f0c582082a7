-- One turn; the line that was written lies within the buffer.
use Rattle.std.proofs.Common.{sym, arith, replicate, length-take-le}
use Rattle.listing.specs.declared.Running.{Running}
use Rattle.listing.specs.Run.{Outcome, afresh}
use Rattle.listing.specs.Part.{goes, line-inside}
use Rattle.show.proofs.step.Goals as goal

-- the run with an empty buffer of 80 bytes
abbrev start : Running → Outcome
start r = record { running = afresh r; out = replicate 80 0 }

pub slice_bounds-out-end : goal.slice_bounds-out-end
slice_bounds-out-end g c =
    line-inside _ (start c.args.r) _ (goes (start c.args.r) c.requires (omega arith)) c.turn-s.ensures (omega arith)

pub slice_bounds-write_all-end : goal.slice_bounds-write_all-end
slice_bounds-write_all-end g c =
    let t = c.turn-s in
    sym (length-take-le t.result.written t.new.out (line-inside _ (start c.args.r) _ (goes (start c.args.r) c.requires (omega arith)) t.ensures (omega arith)))
