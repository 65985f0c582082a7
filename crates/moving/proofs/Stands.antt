-- Where a walk down over the places stands: at a time u, with each task's last deadline up to u, and the work above u.
-- It starts at the window's end, a step past k leads to k − 1, and from there to the next place down nothing changes.
use Prim.Native.Nat.{ℕ, zero, suc, ◌-◌, ◌≤◌, ◌<◌}
use mathlib.Core.Path.{◌≡◌, sym, ap, ◌∙◌}
use mathlib.Core.List.{List}
use native.Mathlib.Omega.{arith}
use lib.ListN.{length, take, drop, get_or, replicate}
use lib.Seq.{length-take-le, take-append_seam, drop-append_seam}
use Rattle.paper.specs.declared.Table.{Table}
use Rattle.paper.specs.Places.{K}
use Rattle.paper.specs.Vectors.{above_moving, here, times}
use Rattle.paper.specs.View.{tasks_of}
use Rattle.theory.specs.Lasts.{lasts, highest-le, lasts-below, length-lasts}
use Rattle.theory.specs.Ready.{Ready}
use Rattle.theory.specs.Tables.{Divide, zero_divides, due-split}
use Rattle.theory.specs.WindowLaws.{window-divides}
use Rattle.moving.specs.declared.deadlines.Walk.{Walk}
use Rattle.places.specs.Stands.{row}
use Rattle.moving.specs.Passed.{Down}
use Rattle.moving.proofs.Places.{gap_before, lasts-low}
use Rattle.moving.proofs.Steps.{lasts-still, above_still, above_below}

pub record Stands (t : Table) (ls : List ℕ) (W v u : ℕ) (s : Walk) : Type 0 where
  pub lasts_are : s.lasts ≡ row (lasts (tasks_of t) u)
  pub above_is : s.above ≡ above_moving (tasks_of t) ls v W u

module _ (t : Table) (W v : ℕ) (y : Ready t W) (vW : v < W) where
  divides : Divide (tasks_of t) W
  divides = rw y.is_window (window-divides (tasks_of t))

  pub start : (ls : List ℕ) (s : Walk) → s.lasts ≡ row (lasts (tasks_of t) W) → s.above ≡ 0 → Stands t ls W v W s
  start ls s e z =
      let ts = tasks_of t in
      record {
        lasts_are = e;
        above_is = omega (arith, due-split W ts ls 0 v W y.good divides (zero_divides ts) vW (omega arith));
      }

  -- between the time of place i − 1 and place i, or the window's end
  pub next : (ls : List ℕ) (s : Walk) (i u : ℕ) → here (tasks_of t) v < i → i ≤ length (K (tasks_of t))
      → suc u ≡ get_or (K (tasks_of t)) i (suc W) → u ≤ W → Stands t ls W v u s → Stands t ls W v (get_or (times (tasks_of t) v) (i - 1) 0) s
  next ls s i u h l e uW a =
      let ts = tasks_of t in
      let lo = get_or (times ts v) (i - 1) 0 in
      let w = y.is_window in
      let g = rw (← w) at (gap_before ts v i (omega arith) h l) in
      let low = lasts-low ts lo (get_or (K ts) i (suc W)) u y.good g (omega arith) in
      let down : lo ≤ u = omega (arith, g.0) in
      record {
        lasts_are = a.lasts_are ∙ ap row (sym (lasts-still ts u lo y.good low down));
        above_is = a.above_is ∙ sym (above_still W v vW ts ls u lo y.good divides low down uW);
      }

  -- a step past k + 1
  below : (ls : List ℕ) (k : ℕ) (s r : Walk) → length t.tasks ≡ 16 → length ls ≡ 16 → v ≤ k → suc k ≤ W
      → Stands t (take t.count ls) W v (suc k) s → Down t ls (suc k - v) (suc k) s r → Stands t (take t.count ls) W v k r
  unfolding tasks_of
  below ls k s r lt ll vk kW a d =
      let n = t.count in
      let few = y.few in
      let ts = take n t.tasks in
      let many : length (take n ls) ≡ length ts = length-take-le n ls (omega arith) ∙ sym (length-take-le n t.tasks (omega arith)) in
      let one = lasts-below ts (suc k) k y.good (highest-le ts (suc k) y.good) (omega arith) in
      let full : length (lasts ts (suc k)) ≡ n = length-lasts ts (suc k) ∙ length-take-le n t.tasks (omega arith) in
      let m = 16 - length (lasts ts (suc k)) in
      let front : take n s.lasts ≡ lasts ts (suc k)
      = ap (take n) a.lasts_are ∙ ap (λ (j : ℕ). take j (row (lasts ts (suc k)))) (sym full) ∙ take-append_seam (lasts ts (suc k)) (replicate m 0) in
      let back : drop n s.lasts ≡ replicate m 0
      = ap (drop n) a.lasts_are ∙ ap (λ (j : ℕ). drop j (row (lasts ts (suc k)))) (sym full) ∙ drop-append_seam (lasts ts (suc k)) (replicate m 0) in
      record {
        lasts_are = d.lowers ∙ rw (front, back, ← one, length-lasts ts (suc k), length-lasts ts k);
        above_is = omega (arith, rw front at d.adds, a.above_is, above_below W v vW ts (take n ls) k y.good divides many vk kW);
      }

  pub past : (ls : List ℕ) (k : ℕ) (s r : Walk) → length t.tasks ≡ 16 → length ls ≡ 16 → v < k → k ≤ W
      → Stands t (take t.count ls) W v k s → Down t ls (k - v) k s r → Stands t (take t.count ls) W v (k - 1) r
  past ls zero s r lt ll vk kW a d = absurd (omega arith)
  past ls (suc k) s r lt ll vk kW a d =
      let e : suc k - 1 ≡ k = omega arith in
      rw e (below ls k s r lt ll (omega arith) kW a d)
