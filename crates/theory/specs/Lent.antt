-- A lent vector that is filled from its front or from its end, and an array whose elements move one place down.
-- Laws of lists and of the vectors' entries, for any length.
use Rattle.std.specs.Prelude.{◌≡◌, Bool, true, false, length, take, drop, get_or, set}
use Rattle.std.proofs.Math.Path.{refl, ap}
use Rattle.std.proofs.Common.{sym, ◌∙◌, add_comm, add-one, length-drop, take-suc, drop-cons, length-take-le, get_or-take, get_or-drop}
use mathlib.Core.List.{List, [], ◌∷◌, ◌++◌}
use Prim.Native.Nat.{ℕ, zero, suc, ◌+◌, ◌-◌, ◌≤◌, ◌<◌}
use native.Mathlib.Omega.{arith}
use Rattle.std.proofs.lemmas.List.{set_at}
use Rattle.std.proofs.Math.Seq.{append_snoc}
use Rattle.paper.specs.declared.Task.{Task}
use Rattle.paper.specs.Window.{window}
use Rattle.paper.specs.Places.{is_deadline, keep, places_in, K}
use Rattle.paper.specs.Vectors.{vec, sum}
use Rattle.theory.specs.PlaceLaws.{entry, vec-cons}

-- place i is given the i-th of the values, after those before it
pub put_more : {A : Type 0} (vals d : List A) (i : ℕ) (z : A) → i < length vals → i < length d
    → set (take i vals ++ drop i d) i (get_or vals i z) ≡ take (i + 1) vals ++ drop (i + 1) d
put_more {A} vals d i z hv hd =
    let hl : length (take i vals) ≡ i = length-take-le i vals (omega arith) in
    rw (drop-cons d i z hd, set_at (take i vals) (get_or d i z) (drop (suc i) d) (get_or vals i z) i hl, add-one, take-suc vals i z hv)
    (sym (append_snoc (take i vals) (get_or vals i z) (drop (suc i) d)))

-- place i − 1 is given a value, before those that stand
pub put_before : {A : Type 0} (d r : List A) (i : ℕ) (z v : A) → 0 < i → i ≤ length d
    → set (take i d ++ r) (i - 1) v ≡ take (i - 1) d ++ (v ∷ r)
put_before {A} d r i z v p h =
    let e : i ≡ suc (i - 1) = omega arith in
    let s : take i d ≡ take (i - 1) d ++ (get_or d (i - 1) z ∷ []) = ap (λ (n : ℕ). take n d) e ∙ take-suc d (i - 1) z (omega arith) in
    rw (s, append_snoc (take (i - 1) d) (get_or d (i - 1) z) r)
    (set_at (take (i - 1) d) (get_or d (i - 1) z) r v (i - 1) (length-take-le (i - 1) d (omega arith)))

-- one more element is moved one place down
pub shift_more : {A : Type 0} (l : List A) (i : ℕ) (d : A) → i + 1 < length l
    → set (take i (drop 1 l) ++ drop i l) i (get_or l (i + 1) d) ≡ take (i + 1) (drop 1 l) ++ drop (i + 1) l
shift_more {A} l i d h =
    let hi : i < length l = omega arith in
    let hd : i < length (drop 1 l) = rw (length-drop 1 l) (omega arith) in
    let hl : length (take i (drop 1 l)) ≡ i = length-take-le i (drop 1 l) (omega arith) in
    let e : get_or (drop 1 l) i d ≡ get_or l (i + 1) d = get_or-drop 1 l i d ∙ ap (λ (n : ℕ). get_or l n d) (add_comm 1 i) in
    rw (drop-cons l i d hi, set_at (take i (drop 1 l)) (get_or l i d) (drop (suc i) l) (get_or l (i + 1) d) i hl, ← e, add-one, take-suc (drop 1 l) i d hd)
    (sym (append_snoc (take i (drop 1 l)) (get_or (drop 1 l) i d) (drop (suc i) l)))

-- n are moved, and z is put in the place of the last
pub shift_end : {A : Type 0} (l : List A) (n : ℕ) (z : A) → n < length l
    → set (take n (drop 1 l) ++ drop n l) n z ≡ take n (drop 1 l) ++ (z ∷ drop (suc n) l)
shift_end {A} l n z h =
    let hl : length (take n (drop 1 l)) ≡ n = length-take-le n (drop 1 l) (rw (length-drop 1 l) (omega arith)) in
    rw (drop-cons l n z h) (set_at (take n (drop 1 l)) (get_or l n z) (drop (suc n) l) z n hl)

-- an element of a list whose front is known
pub at_front : (l f : List ℕ) (n i : ℕ) → take n l ≡ f → i < n → get_or l i 0 ≡ get_or f i 0
at_front l f n i e h = sym (get_or-take n l i 0 h) ∙ ap (λ (x : List ℕ). get_or x i 0) e

-- ---- a vector, from its last place down

-- One place earlier there is one entry more in front.
pub drop-before : (l : List ℕ) (i : ℕ) → 0 < i → i ≤ length l → drop (i - 1) l ≡ get_or l (i - 1) 0 ∷ drop i l
drop-before l i p h =
    let e : suc (i - 1) ≡ i = omega arith in
    rw (drop-cons l (i - 1) 0 (omega arith), e)

module _ (A : ℕ → ℕ) (W : ℕ) where
  -- A vector has as many entries as places.
  pub vec-length : (ks : List ℕ) → length (vec A W ks) ≡ length ks
  unfolding vec
  vec-length [] = refl
  vec-length (k ∷ ks) = ap suc (vec-length ks)

  -- Its sum is at most the window.
  pub sum-most : (ks : List ℕ) → sum (vec A W ks) ≤ W
  unfolding vec sum
  sum-most [] = omega arith
  sum-most (k ∷ ks) = omega (arith, sum-most ks)

  module _ (ks : List ℕ) (i : ℕ) (p : 0 < i) (h : i ≤ length ks) where
    -- One place earlier it has one entry more in front.
    pub vec-before : vec A W (drop (i - 1) ks) ≡ entry A W (get_or ks (i - 1) 0) (drop i ks) ∷ vec A W (drop i ks)
    vec-before = rw (drop-before ks i p h) (vec-cons A W (get_or ks (i - 1) 0) (drop i ks))

    -- And its sum is that entry more.
    pub sum-before : sum (vec A W (drop (i - 1) ks)) ≡ entry A W (get_or ks (i - 1) 0) (drop i ks) + sum (vec A W (drop i ks))
    unfolding sum
    sum-before = rw vec-before refl

-- ---- a place lies in the window

module _ (p : ℕ → Bool) where
  keep_most : (b : Bool) (j m i : ℕ) (js : List ℕ) → j ≤ m → ((i : ℕ) → get_or js i 0 ≤ m) → get_or (keep b j js) i 0 ≤ m
  keep_most true j m zero js h q = h
  keep_most true j m (suc i) js h q = q i
  keep_most false j m i js h q = q i

  places_most : (k n i : ℕ) → get_or (places_in p k n) i 0 ≤ k + n
  unfolding places_in
  places_most k zero i = omega arith
  places_most k (suc n) i =
      keep_most (p (suc k)) (suc k) (k + suc n) i (places_in p (suc k) n) (omega arith) (λ j. omega (arith, places_most (suc k) n j))

-- No place lies past the window.
pub K-most : (ts : List Task) (i : ℕ) → get_or (K ts) i 0 ≤ window ts
unfolding K
K-most ts zero = omega arith
K-most ts (suc i) = omega (arith, places_most (is_deadline ts) 0 (window ts) i)
