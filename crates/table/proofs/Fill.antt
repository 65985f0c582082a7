-- K and D, filled from the last place down while the walk goes down with them.
use mathlib.Core.Path.{◌≡◌, refl, sym, ap, ◌∙◌}
use mathlib.Core.List.{List, [], ◌++◌}
use Prim.Native.Nat.{ℕ, zero, suc, ◌+◌, ◌-◌, ◌≤◌, ◌<◌}
use native.Mathlib.Omega.{arith}
use lib.ListN.{length, take, drop, get_or, set, take-append-drop, drop_of_length-le}
use Rattle.paper.specs.declared.Table.{Table}
use Rattle.paper.specs.Window.{window}
use Rattle.paper.specs.Places.{K}
use Rattle.paper.specs.Vectors.{vec, sum as total, above_static, D, F}
use Rattle.paper.specs.View.{tasks_of}
use Rattle.paper.specs.Calls.{filled}
use Rattle.theory.specs.PlaceLaws.{entry}
use Rattle.theory.specs.Most.{due-above, ready_most}
use Rattle.theory.specs.Lent.{put_before, drop-before, vec-length, sum-most, vec-before, sum-before}
use Rattle.places.specs.declared.Walk.{Walk}
use Rattle.places.specs.Stands.{Stands, up_to, place_in, place_here, some_left, above_here, last_left, fewer_left}

-- i places are left, and the walk stands at the last of them
pub record Left (t : Table) (w : ℕ) (s : Walk) (i : ℕ) : Type 0 where
  pub time : ℕ
  pub stands : Stands t w time s
  pub left : i ≡ up_to (tasks_of t) time

-- the places from i on are filled
pub record Filled (t : Table) (w n : ℕ) (k₀ d₀ k d : List ℕ) (s : Walk) (sum i : ℕ) : Type 0 where
  pub walk : 0 < i → Left t w s i
  pub sum_is : sum ≡ total (vec (above_static (tasks_of t) w) w (drop i (K (tasks_of t))))
  pub k_is : k ≡ take i k₀ ++ (drop i (K (tasks_of t)) ++ drop n k₀)
  pub d_is : d ≡ take i d₀ ++ (vec (above_static (tasks_of t) w) w (drop i (K (tasks_of t))) ++ drop n d₀)

pub fill_start : (t : Table) (w n : ℕ) (k d : List ℕ) (s : Walk) → Stands t w w s → n ≡ length (K (tasks_of t)) → Filled t w n k d k d s 0 n
unfolding vec total K
fill_start t w n k d s x e =
    let ts = tasks_of t in
    let none : drop n (K ts) ≡ [] = drop_of_length-le (K ts) {i = n} (omega arith) in
    record {
      walk = λ h. record { time = w; stands = x; left = e ∙ ap (up_to ts) (sym x.ready.is_window) };
      sum_is = rw none;
      k_is = rw none (sym (take-append-drop n k));
      d_is = rw none (sym (take-append-drop n d));
    }

-- what a turn goes by
pub record Turn (t : Table) (w : ℕ) (s : Walk) (sum i : ℕ) : Type 0 where
  pub in_K : i ≤ length (K (tasks_of t))
  pub place_is : get_or (K (tasks_of t)) (i - 1) 0 ≡ s.place
  pub in_window : s.place ≤ w
  pub above_is : above_static (tasks_of t) w s.place ≡ s.above
  pub above_most : s.above ≤ 640000
  pub sum-most : sum ≤ w

module _ (t : Table) (w n : ℕ) (k₀ d₀ k d : List ℕ) (s : Walk) (sum i : ℕ) (x : Filled t w n k₀ d₀ k d s sum i) (pos : 0 < i) where
  pub turn : Turn t w s sum i
  turn =
      let l = x.walk pos in
      let y = l.stands in
      let u = l.time in
      let ts = tasks_of t in
      record {
        in_K = omega (arith, l.left, some_left t w u s y);
        place_is = rw l.left (place_here t w u s y);
        in_window = place_in t w u s y;
        above_is = above_here t w u s y;
        above_most = omega (arith, y.above_is, due-above t w u y.ready y.inside, ready_most t w w y.ready (omega arith));
        sum-most = omega (arith, x.sum_is, sum-most (above_static ts w) w (drop i (K ts)));
      }

  pub fill_more : (idle : ℕ) (r : Walk) → idle ≡ w - (s.place + s.above + sum) → i ≤ length k₀ → i ≤ length d₀
      → (0 < s.place → Stands t w (s.place - 1) r)
      → Filled t w n k₀ d₀ (set k (i - 1) s.place) (set d (i - 1) idle) r (sum + idle) (i - 1)
  fill_more idle r e hk hd z =
      let ts = tasks_of t in
      let A = above_static ts w in
      let ks = K ts in
      let h = turn in
      let l = x.walk pos in
      let v : idle ≡ entry A w (get_or ks (i - 1) 0) (drop i ks) = e ∙ rw (h.place_is, h.above_is, x.sum_is) (omega arith) in
      record {
        walk = λ more.
            let p : 0 < s.place = above_0 l more in
            record {
              time = s.place - 1;
              stands = z p;
              left = omega (arith, l.left, fewer_left t w l.time s l.stands (s.place - 1) (omega arith));
            };
        sum_is = omega (arith, x.sum_is, sum-before A w ks i pos h.in_K);
        k_is =
            rw (x.k_is, drop-before ks i pos h.in_K, h.place_is) (put_before k₀ (drop i ks ++ drop n k₀) i 0 s.place pos hk);
        d_is =
            rw (x.d_is, vec-before A w ks i pos h.in_K, ← v)
            (put_before d₀ (vec A w (drop i ks) ++ drop n d₀) i 0 idle pos hd);
      }
    where
      above_0 : Left t w s i → 0 < i - 1 → 0 < s.place
      above_0 l more = go s.place refl
        where
          go : (p : ℕ) → s.place ≡ p → 0 < s.place
          go zero q = absurd (omega (arith, l.left, last_left t w l.time s l.stands q))
          go (suc p) q = omega arith

pub fill_end : (t : Table) (w n : ℕ) (k₀ d₀ k d : List ℕ) (s : Walk) (sum i : ℕ) → w ≡ window (tasks_of t) → n ≡ length (K (tasks_of t))
    → Filled t w n k₀ d₀ k d s sum i → i ≡ 0
    → (sum ≡ F (tasks_of t)) × (k ≡ filled (K (tasks_of t)) k₀) × (d ≡ filled (D (tasks_of t)) d₀)
unfolding D F
fill_end t w n k₀ d₀ k d s sum i W many x e =
    let ts = tasks_of t in (
      rw (← W) (rw e at x.sum_is),
      rw (← many) (rw e at x.k_is),
      rw (← W, vec-length (above_static ts w) w (K ts), ← many) (rw e at x.d_is),
    )
