-- The n jobs after the first are moved, and then the place of the last of them is cleared.
use Rattle.std.proofs.Common.{◌≡◌, ◌+◌, ◌-◌, arith}
use Rattle.paper.specs.View.{no_job}
use Rattle.theory.specs.Lent.{shift_end}
use Rattle.state.proofs.Released.{clear_job}
use Rattle.rule.proofs.moved_up.Goals as goal

pub returns : goal.returns
returns c =
    let n = c.args.n in
    let clear : c.default.result ≡ no_job = clear_job _ _ c.default.ensures.0 c.default.ensures.1 in
    let all : n + 1 - 1 ≡ n = omega arith in
    rw (c.copy_from_slice.ensures.after, clear, all) (shift_end c.args.jobs n no_job (omega arith))
