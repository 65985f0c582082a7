-- The arrivals of a file, read one by one where they stand.
use Rattle.std.specs.Prelude.{ℕ, zero, suc, cond, List, [], ◌∷◌, length, drop}
use Rattle.paper.specs.declared.Arrival.{Arrival}
use Rattle.paper.specs.Fields.{field_length, arrival_in, is_arrival}

-- at most n arrivals, from the front of these bytes on
unfoldable pub arrivals_up_to : ℕ → List ℕ → List Arrival
arrivals_up_to zero bs = []
arrivals_up_to (suc n) bs = cond (is_arrival bs) (arrival_in bs ∷ arrivals_up_to n (drop (field_length bs) bs)) []

unfoldable pub arrivals_in : List ℕ → List Arrival
arrivals_in bs = arrivals_up_to (length bs) bs

-- the arrivals from byte p on, one after the other
unfoldable pub arrivals_from : ℕ → List ℕ → List Arrival
arrivals_from p bs = arrivals_in (drop p bs)
