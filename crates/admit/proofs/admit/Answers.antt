use Rattle.admit.proofs.Outcome.{refused_job, accepted_job}
use Rattle.admit.proofs.admit.Goals as goal

pub returns-in-Ok : goal.returns-in-Ok
returns-in-Ok c =
    let a = c.args in
    let e = c.in-Ok.ensures in
    accepted_job a.t a.s a.work a.latest a.k.now a.d.now a.y.now e.vectors c.in-Ok.promise c.with_job.result e.judged.0 e.judged.1 c.with_job.ensures

pub returns-in-Err : goal.returns-in-Err
returns-in-Err c =
    let a = c.args in
    let e = c.in-Err.ensures in
    rw c.refused.ensures (refused_job a.t a.s a.work a.latest a.k.now a.d.now a.y.now e.vectors c.in-Err.r e.judged)
