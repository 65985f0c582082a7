-- The sizes that the code of the promise asks of its numbers and lent vectors.
use Rattle.std.specs.Prelude.{ℕ, ◌≡◌, ◌≤◌, ◌<◌}
use Rattle.moving.specs.declared.Made.{Made}

-- the numbers of vectors that are made, and the vectors' lengths
pub record Lent (made : Made) (long_k long-d long_y : ℕ) : Type 0 where
  pub pos : 0 < made.window
  pub short : made.window ≤ 30000
  pub present : made.here < made.places
  pub few : made.places ≤ 1024
  pub in_k : long_k ≡ made.places
  pub in_d : long-d ≡ made.places
  pub in_y : long_y ≡ made.places

-- the same numbers, and the lengths of lent vectors in front of which those stand
pub record LentInFront (made : Made) (long_k long-d long_y : ℕ) : Type 0 where
  pub pos : 0 < made.window
  pub short : made.window ≤ 30000
  pub present : made.here < made.places
  pub few : made.places ≤ 1024
  pub in_k : made.places ≤ long_k
  pub in_d : made.places ≤ long-d
  pub in_y : made.places ≤ long_y

-- a need that can be promised
pub record Need (need : ℕ) : Type 0 where
  pub some : 1 ≤ need
  pub most : need ≤ 1000000
