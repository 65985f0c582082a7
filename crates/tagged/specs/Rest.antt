-- What is left of the bytes from a place on, as a part of a slice has it.
use Rattle.std.specs.Prelude.{ℕ, ◌-◌, ◌≡◌, List, length, take, drop}
use Rattle.std.proofs.Common.{arith, length-drop, take_all}

-- all that are left are the rest
pub to_the_end : (bs : List ℕ) (p : ℕ) → take (length bs - p) (drop p bs) ≡ drop p bs
to_the_end bs p = take_all (length bs - p) (drop p bs) (omega (arith, length-drop p bs))
