-- A refusal gives the state all zero; acceptance the fresh state.
use Rattle.state.proofs.Released.{power_refused, power_accepted}
use Rattle.state.proofs.power_on.Goals as goal

pub returns-in-Ok : goal.returns-in-Ok
returns-in-Ok c =
    rw (c.fresh.ensures, c.in-Ok.ensures.says.1) (power_accepted c.args.t c.in-Ok.ensures.says.0)

pub returns-in-Err : goal.returns-in-Err
returns-in-Err c =
    rw (c.from-v.ensures, c.all_zero.ensures) (power_refused c.args.t c.in-Err.refusal c.in-Err.ensures.says)
