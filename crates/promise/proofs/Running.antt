-- The running sum, one place on.
use Prim.Native.Nat.{ℕ, ◌+◌, ◌-◌, ◌*◌, ◌/◌, ◌≤◌, ◌<◌}
use mathlib.Core.Path.{◌≡◌, refl, ◌∙◌}
use mathlib.Core.List.{List, [], ◌∷◌}
use Rattle.std.proofs.Common.{◌⊎◌, inl, inr}
use native.Mathlib.Numerals.{add-one}
use native.Mathlib.Nat.{mul-le-mul}
use native.Mathlib.Omega.{arith}
use lib.ListN.{length, take, drop, get_or, length-drop}
use Rattle.std.proofs.lemmas.List.{take_all}
use lib.Seq.{drop-cons}
use Rattle.paper.specs.Idle.{reach}
use Rattle.theory.specs.Counting.{pick_le, pick_gt}

-- place i
pub place_next : (l : List ℕ) (i : ℕ) → i < length l → drop i l ≡ get_or l i 0 ∷ drop (i + 1) l
place_next l i h = rw (drop-cons l i 0 h, add-one)

-- the places from i on, as a part of the list
pub rest : (l : List ℕ) (i : ℕ) → take (length l - i) (drop i l) ≡ drop i l
rest l i = take_all (length l - i) (drop i l) (omega (arith, length-drop i l))

module _ (k y before need : ℕ) (ks ys : List ℕ) where
  pub reach_here : before ≤ need → need ≤ before + y → reach (k ∷ ks) (y ∷ ys) before need ≡ k + (need - before)
  unfolding reach
  reach_here a h = pick_le {a = need} {b = before + y} (k + y - (before + y - need)) (reach ks ys (before + y) need) h ∙ omega arith

  pub reach-on : before + y < need → reach (k ∷ ks) (y ∷ ys) before need ≡ reach ks ys (before + y) need
  unfolding reach
  reach-on h = pick_gt {a = need} {b = before + y} (k + y - (before + y - need)) (reach ks ys (before + y) need) h

-- with no place or no entry left
pub reach-end : (ks ys : List ℕ) (before need : ℕ) → (ks ≡ []) ⊎ (ys ≡ []) → reach ks ys before need ≡ 0
unfolding reach
reach-end [] ys before need e = refl
reach-end (k ∷ ks) [] before need e = refl
reach-end (k ∷ ks) (y ∷ ys) before need e = elim e [ inl q ↦ cc | inr q ↦ cc ]

-- The whole windows of a need that is small take no longer than as many windows: what keeps a promise's sums in range.
pub window_most : (need idle window : ℕ) → (need - 1) / idle ≤ need - 1 → need ≤ 1000000 → window ≤ 30000 → (need - 1) / idle * window ≤ 1000000 * 30000
window_most need idle window few n w = mul-le-mul {n₁ = (need - 1) / idle} {m₁ = window} {n₂ = 1000000} {m₂ = 30000} (omega arith) w
