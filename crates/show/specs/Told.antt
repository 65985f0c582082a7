-- An arrival is told, a slot is not: whether the next arrival is for this slot.
use Rattle.std.specs.Prelude.{ℕ, Bool, false, Option, Some, None, eqb}
use Rattle.paper.specs.declared.Next.{Next}

abbrev pub is_for : ℕ → Option Next → Bool
is_for slot (Some next) = eqb next.arrival.slot.0 slot
is_for slot None = false
