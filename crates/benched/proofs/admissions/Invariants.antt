-- The admissions that are left lead from the state and vectors so far to where all of them lead from the first.
use Rattle.std.proofs.Common.{◌≡◌, ◌-◌}
use Rattle.benched.specs.Stand.{admitted}
use Rattle.benched.proofs.admissions.Given as goal

abbrev pub invariant-loop : goal.invariant-loop
invariant-loop l =
    admitted (l.jobs - l.counter) l.t l.work (record { state = l.s; k = l.k; d = l.d; y = l.y }) ≡ admitted l.jobs l.t l.work (record { state = l.initial.s; k = l.initial.k; d = l.initial.d; y = l.initial.y })
