-- Where the walk down stands: at a time u of the window, with every deadline after u passed.
-- What a caller knows of K from it: the place that it has come to, and how many places are left.
use Prim.Native.Nat.{ℕ, zero, suc, ◌+◌, ◌-◌, ◌≤◌, ◌<◌}
use Rattle.std.specs.Prelude.{◌≡◌, Bool, true, false, length, get_or, replicate}
use Rattle.std.proofs.Math.Path.{refl, ap}
use Rattle.std.proofs.Common.{◌∙◌, add-zero, length-append}
use mathlib.Core.List.{List, [], ◌∷◌, ◌++◌, append_assoc}
use native.Mathlib.Omega.{arith}
use Rattle.std.proofs.Math.ListN.{length-take}
use Rattle.std.proofs.lemmas.List.{length-replicate}
use Rattle.std.proofs.Math.Seq.{get_or-append_seam}
use Rattle.paper.specs.declared.Task.{Task}
use Rattle.paper.specs.declared.Table.{Table}
use Rattle.paper.specs.Demand.{works}
use Rattle.paper.specs.Window.{window}
use Rattle.paper.specs.Places.{is_deadline, keep, places_in, K}
use Rattle.paper.specs.Vectors.{above_static}
use Rattle.paper.specs.View.{tasks_of}
use Rattle.theory.specs.Ready.{Ready}
use Rattle.theory.specs.Most.{due-above}
use Rattle.theory.specs.Lasts.{lasts, periods, highest, highest-le, highest-loud, highest-quiet, due-still, length-works, length-periods}
use Rattle.places.specs.declared.Walk.{Walk}

-- numbers in the first of sixteen places, and 0 in the others
abbrev pub row : List ℕ → List ℕ
row xs = xs ++ replicate (16 - length xs) 0

pub row_long : (xs : List ℕ) → length xs ≤ 16 → length (row xs) ≡ 16
row_long xs h = rw (length-append xs (replicate (16 - length xs) 0), length-replicate {A = ℕ} (16 - length xs) 0) (omega arith)

-- the rows of a table, of which the first `width` places are looked at
pub record RowsOf (t : Table) (cs ps : List ℕ) (width : ℕ) : Type 0 where
  pub works-are : cs ≡ row (works (tasks_of t))
  pub periods-are : ps ≡ row (periods (tasks_of t))
  pub wide : t.count ≤ width

pub record Stands (t : Table) (w u : ℕ) (s : Walk) : Type 0 where
  pub ready : Ready t w
  pub inside : u ≤ w
  pub place_is : s.place ≡ highest (lasts (tasks_of t) u)
  pub above_is : s.above ≡ above_static (tasks_of t) w u
  pub lasts_are : s.lasts ≡ row (lasts (tasks_of t) u)

-- ---- those of k + 1 .. k + n that pass a test, in parts

module _ (p : ℕ → Bool) where
  keep_append : (b : Bool) (k : ℕ) (xs ys : List ℕ) → keep b k (xs ++ ys) ≡ keep b k xs ++ ys
  keep_append true k xs ys = refl
  keep_append false k xs ys = refl

  pub places_parts : (k a b : ℕ) → places_in p k (a + b) ≡ places_in p k a ++ places_in p (k + a) b
  unfolding places_in
  places_parts k zero b =
      let e : 0 + b ≡ b = omega arith in
      rw (e, add-zero)
  places_parts k (suc a) b =
      let e : suc a + b ≡ suc (a + b) = omega arith in
      let f : k + suc a ≡ suc k + a = omega arith in
      rw (e, f, places_parts (suc k) a b) (keep_append (p (suc k)) (suc k) (places_in p (suc k) a) (places_in p (suc k + a) b))

  pub places_none : (k n : ℕ) → ((i : ℕ) → k < i → i ≤ k + n → p i ≡ false) → places_in p k n ≡ []
  unfolding places_in
  places_none k zero q = refl
  places_none k (suc n) q = rw (q (suc k) (omega arith) (omega arith)) (places_none (suc k) n (λ i a b. q i (omega arith) (omega arith)))

  -- the last of them, if none after it passes
  pub places_last : (r u : ℕ) → suc r ≤ u → p (suc r) ≡ true → ((i : ℕ) → suc r < i → i ≤ u → p i ≡ false)
      → places_in p 0 u ≡ places_in p 0 r ++ (suc r ∷ [])
  unfolding places_in
  places_last r u h e q =
      let a : u ≡ r + suc (u - suc r) = omega arith in
      let z : 0 + r ≡ r = omega arith in
      rw (a, places_parts 0 r (suc (u - suc r)), z, e, places_none (suc r) (u - suc r) (λ i b c. q i b (omega arith)))

-- ---- K, up to a time and after it

module _ (ts : List Task) where
  -- how many places lie up to u, and those after u
  abbrev pub up_to : ℕ → ℕ
  up_to u = suc (length (places_in (is_deadline ts) 0 u))

  abbrev pub after : ℕ → List ℕ
  after u = places_in (is_deadline ts) u (window ts - u)

  pub K-parts : (u : ℕ) → u ≤ window ts → K ts ≡ (0 ∷ places_in (is_deadline ts) 0 u) ++ after u
  unfolding K
  K-parts u h =
      let e : window ts ≡ u + (window ts - u) = omega arith in
      let z : 0 + u ≡ u = omega arith in
      ap (λ (ks : List ℕ). 0 ∷ ks) (ap (places_in (is_deadline ts) 0) e ∙ rw z at (places_parts (is_deadline ts) 0 u (window ts - u)))

  pub K-length : (u : ℕ) → u ≤ window ts → length (K ts) ≡ up_to u + length (after u)
  K-length u h = rw (K-parts u h) (length-append (0 ∷ places_in (is_deadline ts) 0 u) (after u))

  -- k is the last place up to u
  record Last (k u : ℕ) : Type 0 where
    not_after : k ≤ u
    in_window : u ≤ window ts
    loud : 0 < k → is_deadline ts k ≡ true
    quiet : (i : ℕ) → k < i → i ≤ u → is_deadline ts i ≡ false

  only_0 : (u : ℕ) → Last 0 u → places_in (is_deadline ts) 0 u ≡ []
  only_0 u l = places_none (is_deadline ts) 0 u (λ i a b. l.quiet i a (omega arith))

  before_last : (r u : ℕ) → Last (suc r) u → places_in (is_deadline ts) 0 u ≡ places_in (is_deadline ts) 0 r ++ (suc r ∷ [])
  before_last r u l = places_last (is_deadline ts) r u l.not_after (l.loud (omega arith)) l.quiet

  one_fewer : (r u : ℕ) → Last (suc r) u → up_to u ≡ suc (up_to r)
  one_fewer r u l = rw (before_last r u l) (omega (arith, length-append (places_in (is_deadline ts) 0 r) (suc r ∷ [])))

  at_last : (k u : ℕ) → Last k u → get_or (K ts) (up_to u - 1) 0 ≡ k
  at_last zero u l =
      let e : up_to u - 1 ≡ 0 = rw (only_0 u l) (omega arith) in
      rw (e, K-parts u l.in_window)
  at_last (suc r) u l =
      let xs : List ℕ = 0 ∷ places_in (is_deadline ts) 0 r in
      let e : up_to u - 1 ≡ length xs = omega (arith, one_fewer r u l) in
      rw (e, K-parts u l.in_window, before_last r u l, append_assoc (places_in (is_deadline ts) 0 r) (suc r ∷ []) (after u))
      (get_or-append_seam xs (suc r) (after u) 0)

  after_last : (r u : ℕ) → Last (suc r) u → after r ≡ suc r ∷ after u
  unfolding places_in
  after_last r u l =
      let W = window ts in
      let e : W - r ≡ suc (u - suc r) + (W - u) = omega (arith, l.not_after, l.in_window) in
      let f : r + suc (u - suc r) ≡ u = omega (arith, l.not_after) in
      rw (
        e,
        places_parts (is_deadline ts) r (suc (u - suc r)) (W - u),
        f,
        l.loud (omega arith),
        places_none (is_deadline ts) (suc r) (u - suc r) (λ i a b. l.quiet i a (omega (arith, l.not_after))),
      )

-- ---- what a caller knows

module _ (t : Table) (w u : ℕ) (s : Walk) (x : Stands t w u s) where
  last : Last (tasks_of t) s.place u
  last =
      let ts = tasks_of t in
      let g = x.ready.good in
      record {
        not_after = omega (arith, x.place_is, highest-le ts u g);
        in_window = omega (arith, x.inside, x.ready.is_window);
        loud = λ h. rw x.place_is (highest-loud ts u g (rw x.place_is at h));
        quiet = λ i a b. highest-quiet ts u i g (rw x.place_is at a) b;
      }

  pub place_up : s.place ≤ u
  place_up = last.not_after

  pub place_in : s.place ≤ w
  place_in = omega (arith, place_up, x.inside)

  -- the place stands in K, and it is the last of those that are left
  pub place_here : get_or (K (tasks_of t)) (up_to (tasks_of t) u - 1) 0 ≡ s.place
  place_here = at_last (tasks_of t) s.place u last

  pub some_left : up_to (tasks_of t) u ≤ length (K (tasks_of t))
  some_left = omega (arith, K-length (tasks_of t) u last.in_window)

  -- nothing falls due between the place and u
  pub above_here : above_static (tasks_of t) w s.place ≡ s.above
  above_here =
      omega (
        arith,
        x.above_is,
        due-still (tasks_of t) u s.place x.ready.good (omega (arith, x.place_is)) last.not_after,
        due-above t w u x.ready x.inside,
        due-above t w s.place x.ready place_in,
      )

  none_left : (k : ℕ) → Last (tasks_of t) k u → k ≡ 0 → places_in (is_deadline (tasks_of t)) 0 u ≡ []
  none_left k l e = only_0 (tasks_of t) u (rw e at l)

  -- place 0 is the last that is left
  pub last_left : s.place ≡ 0 → up_to (tasks_of t) u ≡ 1
  last_left e = ap (λ (ks : List ℕ). suc (length ks)) (none_left s.place last e)

  pub only_0_left : s.place ≡ 0 → K (tasks_of t) ≡ 0 ∷ after (tasks_of t) u
  only_0_left e = rw (none_left s.place last e) at (K-parts (tasks_of t) u last.in_window)

  pub fewer_left : (r : ℕ) → s.place ≡ suc r → up_to (tasks_of t) u ≡ suc (up_to (tasks_of t) r)
  fewer_left r e = one_fewer (tasks_of t) r u (rw e at last)

  pub after-place : (r : ℕ) → s.place ≡ suc r → after (tasks_of t) r ≡ s.place ∷ after (tasks_of t) u
  after-place r e = rw e (after_last (tasks_of t) r u (rw e at last))

-- ---- the rows of a table that passes 1 to 3

module _ (t : Table) (w : ℕ) (y : Ready t w) where
  few : length (tasks_of t) ≤ 16
  unfolding tasks_of
  few = omega (arith, length-take t.count t.tasks, y.few)

  pub works-long : length (row (works (tasks_of t))) ≡ 16
  works-long = row_long (works (tasks_of t)) (omega (arith, length-works (tasks_of t), few))

  pub periods-long : length (row (periods (tasks_of t))) ≡ 16
  periods-long = row_long (periods (tasks_of t)) (omega (arith, length-periods (tasks_of t), few))
