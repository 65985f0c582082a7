-- The slots that are left lead from the state so far to where all of them lead from the first.
use Rattle.std.proofs.Common.{◌≡◌, ◌-◌}
use Rattle.benched.specs.Stand.{ran}
use Rattle.benched.proofs.run_slots.Given as goal

abbrev pub invariant-loop : goal.invariant-loop
invariant-loop l = ran (l.slots - l.counter) l.t l.s ≡ ran l.slots l.t l.initial.s
