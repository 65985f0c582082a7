-- The table check: a refusal leaves both vectors, and acceptance fills both.
use Rattle.table.proofs.Outcome.{call_refused, call_accepted}
use Rattle.table.proofs.check_table.Goals as goal

pub returns-in-Err : goal.returns-in-Err
returns-in-Err c =
    let a = c.args in
    rw c.refused.ensures (call_refused a.t a.k.now a.d.now c.min.result c.min.ensures c.in-Err.r c.in-Err.ensures.says)

pub returns-in-Ok : goal.returns-in-Ok
returns-in-Ok c =
    let a = c.args in
    let p = c.in-Ok.ensures.says in
    let f = rw p.1.table_is at c.fill_table-idle.ensures in
    call_accepted a.t a.k.now a.d.now c.min.result c.min.ensures p.0 _ _ _ _ _ (rw p.1.table_is at c.in-Ok.j.checked.ready.is_window) p.1.places_are f.0 f.1 f.2
