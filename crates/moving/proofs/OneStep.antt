-- One task's work above a time of the window, told by how many of its deadlines lie by then; and one step down, past a time k.
-- There it grows by nothing, or by what is left of the present request, due at most R after v, or by C.
use Prim.Native.Nat.{ℕ, suc, ◌+◌, ◌*◌, ◌-◌, ◌≤◌, ◌<◌, ◌∣◌}
use mathlib.Core.Path.{◌≡◌, sym, ap, ◌∙◌}
use mathlib.Core.Logic.{◌↔◌}
use native.Mathlib.Nat.{zero-add, div-mul-le_self, dvd-zero, mul-le-mul_right, mul-suc, lt_of_not-le}
use native.Mathlib.Omega.{arith}
use native.Mathlib.Decide.{dec_le, ℕ_discrete}
use lib.Dec.{leb}
use borrow.Author.Tests.{eq-eqb, ne_eqb}
use Rattle.paper.specs.declared.Task.{Task}
use Rattle.paper.specs.Demand.{pick, Good, dues, present, deadline_at, later_due}
use Rattle.paper.specs.Vectors.{left_above, later_above}
use Rattle.theory.specs.Counting.{pick_le, pick_gt, spare-is, dues-counts, before_next_release, later_split}
use Rattle.theory.specs.Lasts.{last_of, last_le, dues-still, dues-less}
use Rattle.moving.specs.Passed.{passed_of}

module _ (t : Task) (g : Good t) (W v : ℕ) (d : t.period ∣ W) (vW : v < W) where
  -- the present request is due by u exactly if it is counted
  by : (u : ℕ) → (present t v < dues t u) ↔ (deadline_at t v ≤ u)
  unfolding deadline_at
  by u = dues-counts t g (present t v) u

  later_by_lem : (u : ℕ) → u ≤ W → t.work * (dues t u - suc (present t v)) + later_above t v W u ≡ t.work * (dues t W - suc (present t v))
  unfolding later_due
  later_by_lem u h = simp zero-add at (later_split t g W d 0 v u (dvd-zero t.period) vW h)

  -- where none falls due nothing changes
  left_same : (l a b : ℕ) → dues t a ≡ dues t b → left_above t l v a ≡ left_above t l v b
  unfolding left_above
  left_same l a b e = elim (dec_le (deadline_at t v) a) [
    | yes h ↦ pick_le {a = deadline_at t v} {b = a} 0 l h ∙ sym (pick_le {a = deadline_at t v} {b = b} 0 l ((by b).0 (omega (arith, (by a).1 h))))
    | no h ↦
        pick_gt {a = deadline_at t v} {b = a} 0 l (lt_of_not-le h)
        ∙ sym (pick_gt {a = deadline_at t v} {b = b} 0 l (lt_of_not-le (λ q. h ((by a).0 (omega (arith, (by b).1 q))))))
  ]

  pub later_same : (a b : ℕ) → dues t a ≡ dues t b → a ≤ W → b ≤ W → later_above t v W a ≡ later_above t v W b
  later_same a b e p q = omega (arith, later_by_lem a p, later_by_lem b q, ap (λ (n : ℕ). t.work * (n - suc (present t v))) e)

  -- where its last deadline is k + 1, after v: it is the present request's if it lies at most R after v, else a later one's
  module _ (k : ℕ) (last : last_of t (suc k) ≡ suc k) (vk : v ≤ k) (kW : suc k ≤ W) where
    at : suc k ≡ dues t k * t.period + t.deadline
    unfolding last_of
    at = omega (arith, ap (λ (n : ℕ). n * t.period) (dues-less t g (suc k) k last), last, spare-is t g)

    released : present t v * t.period ≤ v
    unfolding present
    released = div-mul-le_self v t.period

    not_before : present t v ≤ dues t k
    not_before = elim (dec_le (present t v) (dues t k)) [
      | yes h ↦ h
      | no h ↦ absurd (omega (arith, at, released, mul-le-mul_right t.period (lt_of_not-le h), g))
    ]

    -- it is the present one's
    near : suc k - v ≤ t.deadline → dues t k ≡ present t v
    near h = elim (dec_le (dues t k) (present t v)) [
      | yes q ↦ omega (arith, not_before)
      | no q ↦ absurd (omega (arith, at, before_next_release t g v, mul-le-mul_right t.period (lt_of_not-le q)))
    ]

    far : t.deadline < suc k - v → present t v < dues t k
    far h = lt_of_not-le (λ q. omega (arith, at, released, mul-le-mul_right t.period q))

    passes : (l : ℕ) → left_above t l v k + later_above t v W k
        ≡ pick (leb (suc k - v) t.deadline) l t.work + (left_above t l v (suc k) + later_above t v W (suc k))
    unfolding left_above
    passes l =
        let e = dues-less t g (suc k) k last in
        let a = later_by_lem k (omega arith) in
        let b = later_by_lem (suc k) kW in
        elim (dec_le (suc k - v) t.deadline) [
          | yes h ↦
              (let n = near h in
              let z : dues t k - suc (present t v) ≡ 0 = omega arith in
              let z' : dues t (suc k) - suc (present t v) ≡ 0 = omega arith in
              omega (
                arith,
                pick_le {a = suc k - v} {b = t.deadline} l t.work h,
                pick_le {a = deadline_at t v} {b = suc k} 0 l ((by (suc k)).0 (omega arith)),
                pick_gt {a = deadline_at t v} {b = k} 0 l (lt_of_not-le (λ q. omega (arith, (by k).1 q))),
                rw z at a,
                rw z' at b,
              ))
          | no h ↦
              (let n = far (lt_of_not-le h) in
              let s : dues t (suc k) - suc (present t v) ≡ suc (dues t k - suc (present t v)) = omega arith in
              omega (
                arith,
                pick_gt {a = suc k - v} {b = t.deadline} l t.work (lt_of_not-le h),
                pick_le {a = deadline_at t v} {b = suc k} 0 l ((by (suc k)).0 (omega arith)),
                pick_le {a = deadline_at t v} {b = k} 0 l ((by k).0 n),
                a,
                rw (s, mul-suc) at b,
              ))
        ]

  -- one step down
  pub above_down : (l k : ℕ) → v ≤ k → suc k ≤ W → left_above t l v k + later_above t v W k
      ≡ passed_of (suc k) (suc k - v) t l (last_of t (suc k)) + (left_above t l v (suc k) + later_above t v W (suc k))
  above_down l k vk kW = elim (ℕ_discrete (last_of t (suc k)) (suc k)) [
    | yes e ↦ rw (eq-eqb (last_of t (suc k)) (suc k) e) (passes k e vk kW l)
    | no e ↦
        (let s = dues-still t g (suc k) k (omega (arith, last_le t g (suc k))) (omega arith) in
        rw (ne_eqb (last_of t (suc k)) (suc k) e) (omega (arith, left_same l k (suc k) s, later_same k (suc k) s (omega arith) kW)))
  ]

  -- and to any time by which as many are due
  pub above_same : (l a b : ℕ) → dues t a ≡ dues t b → a ≤ W → b ≤ W
      → left_above t l v a + later_above t v W a ≡ left_above t l v b + later_above t v W b
  above_same l a b e p q = omega (arith, left_same l a b e, later_same a b e p q)
