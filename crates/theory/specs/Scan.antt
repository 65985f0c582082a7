-- A walk over the first n of a list, from the last down: one element more in front. And a search of n numbers that finds nothing.
use Rattle.std.specs.Prelude.{◌≡◌, refl, Bool, true, false, cond, List, [], ◌∷◌, ℕ, zero, suc, ◌+◌, ◌-◌, ◌≤◌, ◌<◌, length, take, drop, get_or, None, Some}
use Rattle.std.proofs.Common.{arith, length-take, drop_of_length-le, drop-cons, get_or-take, length-take-le}
use Rattle.std.proofs.Math.Decide.{dec_le}
use Rattle.paper.specs.Refusals.{first_of}

-- The element i - 1 in front of those from i on.
one_in_front : {A : Type 0} (xs : List A) (z : A) (i : ℕ) → 0 < i → i ≤ length xs → drop (i - 1) xs ≡ get_or xs (i - 1) z ∷ drop i xs
one_in_front xs z i p h =
    let e : suc (i - 1) ≡ i = omega arith in
    rw (drop-cons xs (i - 1) z (omega arith), e)

module _ {A : Type 0} (xs : List A) (n : ℕ) where
  -- i of the n elements are left to walk
  abbrev pub Left : ℕ → Type 0
  Left i = (0 < i) × (i ≤ n) × (n ≤ length xs)

  -- those that were walked, when i are left
  abbrev pub from : ℕ → List A
  from i = drop i (take n xs)

  -- From n on there is none, and at the start none was walked.
  pub from_past : (i : ℕ) → n ≤ i → from i ≡ []
  from_past i h =
      let short : length (take n xs) ≤ i = rw (length-take n xs) (omega arith) in
      drop_of_length-le (take n xs) {i = i} short

  pub from_none : from n ≡ []
  from_none = from_past n (omega arith)

  -- A turn puts one element more in front.
  pub from_before : (z : A) (i : ℕ) → Left i → from (i - 1) ≡ get_or xs (i - 1) z ∷ from i
  from_before z i h =
      let short : i ≤ length (take n xs) = rw (length-take-le n xs h.2) h.1 in
      rw (one_in_front (take n xs) z i h.0 short, get_or-take n xs (i - 1) z (omega arith))

-- ---- a search that finds nothing

-- Where every number fails the test, none is found.
pub none_found : (f : ℕ → Bool) (a n : ℕ) → ((u : ℕ) → a ≤ u → u < a + n → f u ≡ false) → first_of f a n ≡ None
unfolding first_of
none_found f a zero h = refl
none_found f a (suc n) h = rw (h a (omega arith) (omega arith)) (none_found f (suc a) n (λ u i j. h u (omega arith) (omega arith)))

-- Where none is found, every number fails the test.
pub found_none : (f : ℕ → Bool) (a n : ℕ) → first_of f a n ≡ None → (u : ℕ) → a ≤ u → u < a + n → f u ≡ false
unfolding first_of
found_none f a zero e u i j = absurd (omega arith)
found_none f a (suc n) e u i j = go (f a) refl e (λ q k. found_none f (suc a) n q u k (omega arith))
  where
    go : (b : Bool) → f a ≡ b → cond b (Some a) (first_of f (suc a) n) ≡ None → (first_of f (suc a) n ≡ None → a < u → f u ≡ false)
        → f u ≡ false
    go true p q later = let z : ◌≡◌ {A = ℕ} 0 1 = cc in absurd (omega arith)
    go false p q later = elim (dec_le u a) [
      | yes k ↦ let s : u ≡ a = omega arith in rw s p
      | no k ↦ later q (omega arith)
    ]
