-- Refusal 6 need only look at the places; and what the walk down has counted and asked when it has come to a time.
use mathlib.Core.Path.{◌≡◌, refl, sym, ap, ◌∙◌}
use mathlib.Core.Bool.{Bool, true, false, cond}
use Rattle.std.specs.Prelude.{Option, None, Some}
use mathlib.Core.List.{List, [], ◌∷◌}
use Prim.Native.Nat.{ℕ, zero, suc, ◌+◌, ◌-◌, ◌≤◌, ◌<◌}
use native.Mathlib.Omega.{arith}
use lib.Dec.{ltb}
use lib.ListN.{length}
use borrow.Author.Tests.{ltb-false, le-ltb}
use Rattle.paper.specs.declared.Task.{Task}
use Rattle.paper.specs.declared.Table.{Table}
use Rattle.paper.specs.Demand.{AllGood, table_due}
use Rattle.paper.specs.Window.{window}
use Rattle.paper.specs.Places.{is_deadline, keep, places_in, K}
use Rattle.paper.specs.View.{tasks_of}
use Rattle.paper.specs.Refusals.{at, first_of, overloaded_at, refusal_6}
use Rattle.theory.specs.Tables.{table_split, table_none, static_step}
use Rattle.theory.specs.WindowLaws.{window-divides}
use Rattle.theory.specs.Most.{due-above, ready_most}
use Rattle.places.specs.declared.Walk.{Walk}
use Rattle.places.specs.Counted.{Counted}
use Rattle.places.specs.Stands.{Stands, after, K-length, place_in, above_here, fewer_left, only_0_left, after-place}

-- the first of some times that passes the test
unfoldable pub first_in : (ℕ → Bool) → List ℕ → Option ℕ
first_in test [] = None
first_in test (k ∷ ks) = cond (test k) (Some k) (first_in test ks)

module _ (test p : ℕ → Bool) (W : ℕ) (still : (j : ℕ) → j < W → p (suc j) ≡ false → test j ≡ false → test (suc j) ≡ false) where
  keep_first : (k : ℕ) (o : Option ℕ) (ks : List ℕ) (a b : Bool) → test (suc k) ≡ a → p (suc k) ≡ b → k < W → test k ≡ false
      → (a ≡ false → o ≡ first_in test ks) → cond a (Some (suc k)) o ≡ first_in test (keep b (suc k) ks)
  unfolding first_in
  keep_first k o ks true true e q h z r = rw e
  keep_first k o ks false true e q h z r = rw e (r refl)
  keep_first k o ks true false e q h z r = let s = still k h q z in let c : ◌≡◌ {A = ℕ} 0 1 = cc in absurd (omega arith)
  keep_first k o ks false false e q h z r = r refl

  first-places : (k n : ℕ) → k + n ≤ W → test k ≡ false → first_of test (suc k) n ≡ first_in test (places_in p k n)
  unfolding first_of first_in places_in
  first-places k zero h z = refl
  first-places k (suc n) h z =
      keep_first k (first_of test (suc (suc k)) n) (places_in p (suc k) n) (test (suc k)) (p (suc k)) refl refl (omega arith) z
      (λ e. first-places (suc k) n (omega arith) e)

module _ (ts : List Task) where
  -- more work is due by k than there is time
  abbrev pub over : ℕ → Bool
  over k = ltb k (table_due ts k)

  module _ (g : AllGood ts) where
    over_still : (j : ℕ) → j < window ts → is_deadline ts (suc j) ≡ false → over j ≡ false → over (suc j) ≡ false
    over_still j h q z =
        let W = window ts in
        let d = window-divides ts in
        le-ltb (suc j) (table_due ts (suc j))
        (omega (
          arith,
          ltb-false j (table_due ts j) z,
          static_step W ts j g d h q,
          table_split W ts j g d (omega arith),
          table_split W ts (suc j) g d h,
        ))

    over_places : overloaded_at ts ≡ first_in over (K ts)
    unfolding overloaded_at first_of first_in K
    over_places =
        let z : over 0 ≡ false = le-ltb 0 (table_due ts 0) (omega (arith, table_none ts g)) in
        rw z (first-places over (is_deadline ts) (window ts) over_still 0 (window ts) (omega arith) z)

-- ---- the walk, as far as it has come

-- the places after u are counted, with place 0, and asked
pub record Come (t : Table) (w : ℕ) (found : Option ℕ) (places : ℕ) (s : Walk) : Type 0 where
  pub time : ℕ
  pub stands : Stands t w time s
  pub counted : places ≡ suc (length (after (tasks_of t) time))
  pub asked : found ≡ first_in (over (tasks_of t)) (after (tasks_of t) time)

pub come_start : (t : Table) (w : ℕ) (s : Walk) → Stands t w w s → Come t w None 1 s
unfolding places_in first_in
come_start t w s x =
    let e : window (tasks_of t) - w ≡ 0 = omega (arith, x.ready.is_window) in
    record { time = w; stands = x; counted = rw e; asked = rw e }

module _ (t : Table) (w : ℕ) (v : Option ℕ) (n : ℕ) (s : Walk) (x : Come t w v n s) where
  pub above_most : s.above ≤ table_due (tasks_of t) w
  above_most =
      let y = x.stands in
      omega (arith, y.above_is, due-above t w x.time y.ready y.inside)

  pub all_most : table_due (tasks_of t) w ≤ 640000
  all_most = ready_most t w w x.stands.ready (omega arith)

  due-here : table_due (tasks_of t) s.place ≡ table_due (tasks_of t) w - s.above
  due-here =
      let y = x.stands in
      omega (arith, above_here t w x.time s y, due-above t w s.place y.ready (place_in t w x.time s y))

  -- one place more, at which more is due than there is time, or not
  pub come_more : (all : ℕ) (u : Option ℕ) (m : ℕ) (r : Walk) → all ≡ table_due (tasks_of t) w → 0 < s.place
      → u ≡ cond (ltb s.place (all - s.above)) (Some s.place) v → m ≡ n + 1
      → Stands t w (s.place - 1) r → Come t w u m r
  unfolding first_in
  come_more all u m r q pos e j z =
      let p = after-place t w x.time s x.stands (s.place - 1) (omega arith) in
      record {
        time = s.place - 1;
        stands = z;
        counted = rw p (omega (arith, x.counted));
        asked = e ∙ rw (q, x.asked, p, ← due-here);
      }

  -- only place 0 is left, or there is one before it
  pub come_end : s.place ≡ 0 → n ≤ 1024 → Counted (tasks_of t) (record { places = n; over = v })
  unfolding first_in refusal_6
  come_end e h =
      let ts = tasks_of t in
      let k = only_0_left t w x.time s x.stands e in
      let g = x.stands.ready.good in
      let z : over ts 0 ≡ false = le-ltb 0 (table_due ts 0) (omega (arith, table_none ts g)) in
      let c : n ≡ length (K ts) = rw k (omega (arith, x.counted)) in
      let o : v ≡ overloaded_at ts = rw x.asked (sym (over_places ts g ∙ rw (k, z))) in
      record { places_are = omega (arith, c, h); over_is = λ m. o; six_is = λ m. ap (λ (found : Option ℕ). at found 6) o }

  pub come_many : n ≡ 1024 → 0 < s.place → Counted (tasks_of t) (record { places = 1025; over = v })
  come_many e pos =
      let ts = tasks_of t in
      let y = x.stands in
      let many : 1025 ≤ length (K ts) = omega (
        arith,
        x.counted,
        fewer_left t w x.time s y (s.place - 1) (omega arith),
        K-length ts x.time (omega (arith, y.inside, y.ready.is_window)),
      ) in
      record { places_are = omega (arith, many); over_is = λ m. absurd (omega arith); six_is = λ m. absurd (omega arith) }
