-- "Each entry at most the gap to the next place": of D for any table, of Y for any lefts at any offset of a window.
-- Places of Y before the present one have the entry 0.
use Rattle.std.specs.Prelude.{ℕ, zero, suc, ◌+◌, ◌-◌, ◌≤◌, ◌<◌, ◌≡◌, refl, List, [], ◌∷◌, ◌++◌, length, take, replicate, get_or}
use Rattle.std.proofs.Math.Path.{subst}
use Rattle.std.proofs.Common.{arith}
use Rattle.std.proofs.Math.Decide.{dec_le}
use Rattle.paper.specs.declared.Task.{Task}
use Rattle.paper.specs.Demand.{AllGood}
use Rattle.paper.specs.Window.{window}
use Rattle.paper.specs.Places.{is_deadline, places_in, K}
use Rattle.paper.specs.Vectors.{above_static, above_moving, places_up_to, here, times_from, times, Y_from, D, Y}
use Rattle.theory.specs.Counting.{pick_le, pick_gt}
use Rattle.theory.specs.Tables.{static_falls, moving_falls}
use Rattle.theory.specs.PlaceLaws.{Rising, places_rise, none_up, moving_steps}
use Rattle.demands.specs.Slack.{static_steps}
use Rattle.theory.specs.Times.{here-is, times_from-is, before_length}
use Rattle.demands.specs.RunningSum.{first, Fits, vec-fits}

-- ---- places whose entry is 0, in front

-- each is at most the next, and the last at most `top`
abbrev Upward : ℕ → List ℕ → Type 0
Upward top [] = Unit {0}
Upward top (j ∷ js) = (j ≤ first top js) × Upward top js

first-append : (W : ℕ) (js ks : List ℕ) → first W (js ++ ks) ≡ first (first W ks) js
first-append W [] ks = refl
first-append W (j ∷ js) ks = refl

fits_zeros : (W : ℕ) (js ks ys : List ℕ) → Upward (first W ks) js → Fits W ks ys → Fits W (js ++ ks) (replicate (length js) 0 ++ ys)
fits_zeros W [] ks ys u f = f
fits_zeros W (j ∷ js) ks ys u f = (omega (arith, u.0, first-append W js ks), fits_zeros W js ks ys u.1 f)

first-take : (v k n : ℕ) (ks : List ℕ) → k ≤ v → Rising k ks → k ≤ first v (take n ks)
first-take v k zero ks h r = h
first-take v k (suc n) [] h r = h
first-take v k (suc n) (j ∷ ks) h r = omega (arith, r.0)

-- the first places up to v
upward : (v h n : ℕ) (ks : List ℕ) → Rising h ks → n ≤ places_up_to v ks → Upward v (take n ks)
unfolding places_up_to
upward v h zero ks r l = tt
upward v h (suc n) [] r l = tt
upward v h (suc n) (k ∷ ks) r l = elim (dec_le k v) [
  | yes a ↦ (first-take v k n ks a r.1, upward v k n ks r.1 (omega (arith, pick_le {a = k} {b = v} 1 0 a)))
  | no a ↦ absurd (omega (arith, pick_gt {a = k} {b = v} 1 0 (omega arith), none_up v k ks (omega arith) r.1))
]

upward_zero : (v n : ℕ) (ks : List ℕ) → Rising 0 ks → n ≤ places_up_to v ks → Upward v (take n (0 ∷ ks))
upward_zero v zero ks r l = tt
upward_zero v (suc n) ks r l = (omega arith, upward v 0 n ks r (omega arith))

-- ---- the vectors

module _ (ts : List Task) (good : AllGood ts) where
  -- Each entry of D is at most the gap to the next place.
  pub D-fits : Fits (window ts) (K ts) (D ts)
  unfolding K D
  D-fits =
      vec-fits (above_static ts (window ts)) (window ts) 0 (places_in (is_deadline ts) 0 (window ts))
      (λ k j. static_falls (window ts) ts k j good) (static_steps ts good)

  module _ (ls : List ℕ) (v : ℕ) (vW : v < window ts) where
    -- So is each entry of Y from place h on.
    pub Y_from-fits : Fits (window ts) (times_from ts v) (Y_from ts ls v)
    unfolding Y_from
    Y_from-fits =
        rw (times_from-is ts v (omega arith)) (vec-fits (above_moving ts ls v (window ts)) (window ts) v (places_in (is_deadline ts) v (window ts - v))
        (λ k j. moving_falls (window ts) ts ls v k j good) (moving_steps ts good ls v vW))

    before_up : Upward v (take (here ts v) (K ts))
    unfolding K
    before_up =
        let places = places_in (is_deadline ts) 0 (window ts) in
        upward_zero v (here ts v) places (places_rise (is_deadline ts) 0 0 (window ts) (omega arith)) (omega (arith, here-is ts v))

    -- So is each entry of Y, where the places before h are 0.
    pub Y-fits : Fits (window ts) (times ts v) (Y ts ls v)
    unfolding times Y times_from
    Y-fits =
        subst (λ (n : ℕ). Fits (window ts) (times ts v) (replicate n 0 ++ Y_from ts ls v)) (before_length ts v)
        (fits_zeros (window ts) (take (here ts v) (K ts)) (times_from ts v) (Y_from ts ls v) before_up Y_from-fits)

-- ---- entry by entry: with what W closes the places, place i and its entry come to place i + 1 at most

next-first : (W : ℕ) (ks : List ℕ) → first W ks ≡ get_or (ks ++ (W ∷ [])) 0 0
next-first W [] = refl
next-first W (k ∷ ks) = refl

-- Place by place: a place and its entry together are at most the next place, and at the last one the window's end.
pub fits_at : (W : ℕ) (ks ys : List ℕ) → Fits W ks ys → (i : ℕ) → i < length ks
    → get_or ks i 0 + get_or ys i 0 ≤ get_or (ks ++ (W ∷ [])) (suc i) 0
fits_at W [] [] f i h = absurd (omega arith)
fits_at W [] (y ∷ ys) f i h = elim f [ ]
fits_at W (k ∷ ks) [] f i h = elim f [ ]
fits_at W (k ∷ ks) (y ∷ ys) f zero h = omega (arith, f.0, next-first W ks)
fits_at W (k ∷ ks) (y ∷ ys) f (suc i) h = fits_at W ks ys f.1 i (omega arith)
