-- One task's work above a time of the window, by one division.
-- As many of its deadlines lie above k as make up, with those by k, the window's; the present one is the first of them or none.
use Prim.Native.Nat.{ℕ, suc, ◌+◌, ◌*◌, ◌-◌, ◌/◌, ◌≤◌, ◌<◌}
use mathlib.Core.Path.{◌≡◌, sym, ap, ◌∙◌}
use mathlib.Core.Logic.{◌↔◌}
use native.Mathlib.Nat.{div-eq_of_lt, div-lt_iff_lt-mul, div-mul-le_self, div-mul_cancel, max-eq_left, max-eq_right, mul-le-mul_right, lt_of_not-le, mul_comm}
use native.Mathlib.Omega.{arith}
use native.Mathlib.Decide.{dec_le}
use Rattle.paper.specs.declared.Task.{Task}
use Rattle.paper.specs.Demand.{Good, dues, present, deadline_at}
use Rattle.paper.specs.Places.{spare}
use Rattle.paper.specs.Vectors.{ceil, left_above, later_above}
use Rattle.theory.specs.Counting.{pick_le, pick_gt, period_pos, spare-is, dues-counts, dues-split, dues-whole, before_next_release, deadline_by}
use Rattle.moving.specs.Above.{From, Fits}

module _ (t : Task) (W v k : ℕ) (f : Fits t W) (a : From W v k) where
  g : Good t
  g = f.good

  -- the deadlines above k
  abbrev pub above : ℕ
  above = (W - k + (t.deadline - 1)) / t.period

  above_is : ceil (W - spare t - k) t.period ≡ above
  above_is =
      let s = spare-is t g in
      elim (dec_le (spare t + k) W) [
        | yes h ↦ (let e : W - spare t - k + (t.period - 1) ≡ W - k + (t.deadline - 1) = omega (arith, g) in ap (λ (z : ℕ). z / t.period) e)
        | no h ↦
            div-eq_of_lt {n = W - spare t - k + (t.period - 1)} {m = t.period} (omega (arith, g))
            ∙ sym (div-eq_of_lt {n = W - k + (t.deadline - 1)} {m = t.period} (omega (arith, g)))
      ]

  split : dues t k + above ≡ dues t W
  split = rw (← above_is) (dues-split t g W f.divides k a.not_after)

  whole : dues t W * t.period ≡ W
  whole = rw (dues-whole t g W f.divides) (div-mul_cancel t.period f.divides)

  parts : dues t k * t.period + above * t.period ≡ W
  parts = omega (arith, ap (λ (z : ℕ). z * t.period) split, whole)

  pub above_most : above * t.period ≤ 40000
  above_most = omega (arith, div-mul-le_self (W - k + (t.deadline - 1)) t.period, g, a)

  work_most : (n : ℕ) → n ≤ above → t.work * n ≤ 40000
  work_most n h =
      omega (
        arith,
        above_most,
        mul-le-mul_right t.period h,
        mul-le-mul_right n g.fits,
        mul-le-mul_right n g.before_next,
        mul_comm n t.period,
      )

  pub all_most : t.work * above ≤ 40000
  all_most = work_most above (omega arith)

  pub later_most : t.work * (above - 1) ≤ 40000
  later_most = work_most (above - 1) (omega arith)

  -- the requests before the present one are counted by k
  released : present t v * t.period ≤ v
  unfolding present
  released = div-mul-le_self v t.period

  before : present t v ≤ dues t k
  before = elim (dec_le (present t v) (dues t k)) [
    | yes h ↦ h
    | no h ↦
        absurd (omega (arith, (dues-counts t g (dues t k) k).1 (omega (arith, g, mul-le-mul_right t.period (lt_of_not-le h), released, a))))
  ]

  -- and it is too, exactly if v lies before the periods above k
  counted : v + above * t.period < W → present t v < dues t k
  unfolding present
  counted h = (div-lt_iff_lt-mul (period_pos t g)).1 (omega (arith, parts))

  missed : W ≤ v + above * t.period → dues t k ≤ present t v
  missed h = elim (dec_le (dues t k) (present t v)) [
    | yes q ↦ q
    | no q ↦ absurd (omega (arith, parts, before_next_release t g v, mul-le-mul_right t.period (lt_of_not-le q)))
  ]

  -- its deadline is the one after those of the requests before
  deadline_count : dues t (deadline_at t v) ≡ suc (present t v)
  unfolding deadline_at
  deadline_count =
      let d = present t v * t.period + t.deadline in
      let a = (dues-counts t g (present t v) d).1 (omega arith) in
      elim (dec_le (dues t d) (suc (present t v))) [
        | yes h ↦ omega arith
        | no h ↦ absurd (omega (arith, (dues-counts t g (suc (present t v)) d).0 (lt_of_not-le h), period_pos t g))
      ]

  by_k : (present t v < dues t k) ↔ (deadline_at t v ≤ k)
  unfolding deadline_at
  by_k = dues-counts t g (present t v) k

  -- its deadline lies by k: all that lies above k is later
  pub near : (l : ℕ) → v + above * t.period < W → left_above t l v k + later_above t v W k ≡ t.work * above
  unfolding left_above later_above
  near l h =
      let d : deadline_at t v ≤ k = by_k.0 (counted h) in
      rw (pick_le {a = deadline_at t v} {b = k} 0 l d, max-eq_left d, above_is) (omega arith)

  -- it lies above k: it is the first of those
  pub far : (l : ℕ) → W ≤ v + above * t.period → left_above t l v k + later_above t v W k ≡ l + t.work * (above - 1)
  unfolding left_above later_above
  far l h =
      let m = missed h in
      let d : k < deadline_at t v = lt_of_not-le (λ q. omega (arith, by_k.1 q)) in
      let e : ceil (W - spare t - deadline_at t v) t.period ≡ above - 1
      = omega (arith, dues-split t g W f.divides (deadline_at t v) (deadline_by t g v W f.divides a.inside), deadline_count, split, before) in
      let r : k ≤ deadline_at t v = omega arith in
      rw (pick_gt {a = deadline_at t v} {b = k} 0 l d, max-eq_right r, e)
