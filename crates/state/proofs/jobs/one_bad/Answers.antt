use Rattle.std.proofs.Common.{sym, ◌∙◌, arith, get_or}
use Rattle.state.proofs.Walks.{waiting_more, waiting_end, bad_clock}
use Rattle.paper.specs.View.{no_job}
use Rattle.state.proofs.jobs.one_bad.Goals as goal

pub returns-then-is_bad : goal.returns-then-is_bad
returns-then-is_bad c =
    let l = c.loop-j in
    let js = c.args.jobs.now in
    rw (l.invariant, waiting_more js l.j-index l.low.0 (omega arith), ← c.is_bad.ensures, c.if-is_bad.true)

pub least_after-low-requires : goal.least_after-low-requires
least_after-low-requires c =
    let l = c.loop-j in
    bad_clock l.low.0 (get_or c.args.jobs.now l.j-index no_job) (sym c.is_bad.ensures ∙ c.if-is_bad.false)

pub loop-j-preserved : goal.loop-j-preserved
loop-j-preserved c =
    let l = c.loop-j in
    let js = c.args.jobs.now in
    rw (l.invariant, waiting_more js l.j-index l.low.0 (omega arith), ← c.is_bad.ensures, c.if-is_bad.false, c.least_after-low.ensures)

pub returns : goal.returns
returns c =
    let l = c.loop-j in
    rw (l.invariant, waiting_end c.args.jobs.now l.j-index l.low.0 (omega arith))
