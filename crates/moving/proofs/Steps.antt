-- A walk down over a table's deadlines: between places nothing changes, and a step past k adds the work of the deadlines there.
use Prim.Native.Nat.{ℕ, suc, ◌+◌, ◌-◌, ◌≤◌, ◌<◌}
use mathlib.Core.Path.{◌≡◌, refl, ap₂}
use mathlib.Core.List.{List, [], ◌∷◌}
use native.Mathlib.Omega.{arith}
use lib.ListN.{length}
use Rattle.paper.specs.declared.Task.{Task}
use Rattle.paper.specs.Demand.{AllGood}
use Rattle.paper.specs.Vectors.{above_moving}
use Rattle.theory.specs.Tables.{Divide}
use Rattle.theory.specs.Lasts.{last_of, lasts, highest, dues-still}
use Rattle.moving.specs.Passed.{passed}
use Rattle.moving.proofs.OneStep.{later_same, above_same, above_down}

-- ---- from u down to k, if no deadline lies between

pub lasts-still : (ts : List Task) (u k : ℕ) → AllGood ts → highest (lasts ts u) ≤ k → k ≤ u → lasts ts k ≡ lasts ts u
unfolding lasts highest last_of
lasts-still [] u k g a b = refl
lasts-still (t ∷ ts) u k g a b =
    ap₂ (λ (l : ℕ) (ls : List ℕ). l ∷ ls)
    (rw (dues-still t g.0 u k (unfold last_of in omega arith) b)) (lasts-still ts u k g.1 (omega arith) b)

module _ (W v : ℕ) (vW : v < W) where
  pub above_still : (ts : List Task) (ls : List ℕ) (u k : ℕ) → AllGood ts → Divide ts W → highest (lasts ts u) ≤ k → k ≤ u → u ≤ W
      → above_moving ts ls v W k ≡ above_moving ts ls v W u
  unfolding lasts highest above_moving
  above_still [] ls u k g d a b uW = refl
  above_still (t ∷ ts) [] u k g d a b uW =
      omega (
        arith,
        later_same t g.0 W v d.0 vW k u (dues-still t g.0 u k (omega arith) b) (omega arith) uW,
        above_still ts [] u k g.1 d.1 (omega arith) b uW,
      )
  above_still (t ∷ ts) (l ∷ ls) u k g d a b uW =
      omega (
        arith,
        above_same t g.0 W v d.0 vW l k u (dues-still t g.0 u k (omega arith) b) (omega arith) uW,
        above_still ts ls u k g.1 d.1 (omega arith) b uW,
      )

  -- ---- from k + 1 down to k

  pub above_below : (ts : List Task) (ls : List ℕ) (k : ℕ) → AllGood ts → Divide ts W → length ls ≡ length ts → v ≤ k → suc k ≤ W
      → above_moving ts ls v W k ≡ passed (suc k) (suc k - v) ts ls (lasts ts (suc k)) + above_moving ts ls v W (suc k)
  unfolding lasts above_moving passed
  above_below [] ls k g d e vk kW = refl
  above_below (t ∷ ts) [] k g d e vk kW = absurd (omega arith)
  above_below (t ∷ ts) (l ∷ ls) k g d e vk kW =
      omega (arith, above_down t g.0 W v d.0 vW l k vk kW, above_below ts ls k g.1 d.1 (omega arith) vk kW)
