-- The first n of some places, where n may be more than there are.
use Rattle.std.proofs.Common.{◌≡◌, ℕ, List, length, take, min, sym}
use Rattle.std.proofs.lemmas.List.{take_min}

pub first_places : {A : Type 0} (n m : ℕ) (xs : List A) → length xs ≡ m → take (min n m) xs ≡ take n xs
first_places n m xs e = rw (sym e) (take_min n xs)
