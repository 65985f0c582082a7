use Rattle.std.proofs.Common.{Ok, Err}
use Rattle.vectors.specs.Prepared.{moving_of_lem}
use Rattle.vectors.proofs.moving_vectors.Goals as goal

pub returns-in-Ok : goal.returns-in-Ok
returns-in-Ok c =
    let a = c.args in
    moving_of_lem a.t a.s a.k.now a.d.now a.y.now _ _ _ (Ok c.in-Ok.p) c.in-Ok.ensures.judged tt

pub returns-in-Err : goal.returns-in-Err
returns-in-Err c =
    let a = c.args in
    rw c.refused.ensures (moving_of_lem a.t a.s a.k.now a.d.now a.y.now _ _ _ (Err c.in-Err.r) c.in-Err.ensures.judged c.in-Err.ensures.kept)
