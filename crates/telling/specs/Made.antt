-- States as the test programs make them: another slot, one job alone.
use Rattle.std.specs.Prelude.{ℕ, set}
use Rattle.paper.specs.declared.State.{State}

abbrev pub at : State → ℕ → State
at s slot = record s { now = record { 0 = slot } }

abbrev pub waits : State → ℕ → ℕ → State
waits s left promise = record s { jobs = set s.jobs 0 (record { left = left; promise = record { 0 = promise } }); waiting = 1 }
