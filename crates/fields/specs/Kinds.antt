-- "1, length 6", "2, length 6 or 10", "3, length 4": the tag of each kind.
use Rattle.std.specs.Prelude.{ℕ, ◌≡◌, ◌||◌, true, ltb, eqb, Result, Ok, Err}
use Rattle.fields.specs.declared.Kind.{Kind}
use Rattle.fields.specs.declared.Kind.TheVariants.{Task, Arrival, Slots}
use Rattle.fields.specs.declared.UnknownTag.{UnknownTag}

abbrev pub number_of : Kind → ℕ
number_of Task = 1
number_of Arrival = 2
number_of Slots = 3

-- the kind of a tag; an error where the paper's 17 is given
abbrev pub KindOf : ℕ → Result Kind UnknownTag → Type 0
KindOf t (Ok k) = t ≡ number_of k
KindOf t (Err e) = eqb t 0 || ltb 3 t ≡ true
