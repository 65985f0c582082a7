-- As many places are copied as the run has, and no more than sixteen.
use Rattle.std.proofs.Common.{◌≡◌, List, length, min, ap, arith}
use Rattle.paper.specs.declared.Task.{Task}
use Rattle.paper.specs.View.{no_task, table_of}
use Rattle.board.proofs.Copied.{clear, copied}
use Rattle.board.proofs.lent.table_of.Goals as goal

pub returns : goal.returns
unfolding table_of
returns c =
    let ts = c.args.ts.now in
    let all : c.min-copied.result ≡ min (length ts) 16 = omega arith in
    ap (λ (l : List Task). record { tasks = l; count = length ts })
    (rw (c.copy_from_slice.ensures.after, clear _ c.default-tasks.ensures) (copied no_task ts 16 c.min-copied.result all))
