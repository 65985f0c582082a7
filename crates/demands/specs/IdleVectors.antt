-- What document 01 says of its vectors, in its own words: gaps, sums, the last place, idle until t, the place formula.
-- The statements are the two records; everything else here serves them.
use Rattle.std.specs.Prelude.{ℕ, zero, suc, ◌+◌, ◌*◌, ◌-◌, ◌/◌, ◌%◌, ◌≤◌, ◌<◌, ◌≡◌, ◌↔◌, length, get_or, None, Some, slice_get}
use Rattle.std.proofs.Math.Path.{refl}
use Rattle.std.proofs.Common.{sym, ap, ◌∙◌, zero-add, mod-lt, arith}
use mathlib.Core.List.{List, [], ◌∷◌, ◌++◌}
use Rattle.std.proofs.Math.Nat.{sub-zero}
use Rattle.std.proofs.Math.Decide.{dec_le}
use Rattle.paper.specs.declared.Task.{Task}
use Rattle.paper.specs.Demand.{AllGood, table_due, due, works}
use Rattle.paper.specs.Window.{window}
use Rattle.paper.specs.Places.{spare, is_deadline, K}
use Rattle.paper.specs.Vectors.{sum, vec, above_static, above_moving, here, times_from, times, Y_from, D, F, Y}
use Rattle.paper.specs.Idle.{idle_up_to, idle_in, idle_until, promise, LeastAfter}
use Rattle.paper.specs.View.{View}
use Rattle.paper.specs.Refusals.{overloaded_at, overfull_at}
use Rattle.theory.specs.Tables.{zero_divides, due-split, due-start, table_split}
use Rattle.theory.specs.WindowLaws.{window-divides, window-pos}
use Rattle.demands.specs.Deadlines.{last_of, least_spare, AtLeast, at_least, K-last, D-last}
use Rattle.theory.specs.PlaceLaws.{places_up_to-none}
use Rattle.theory.specs.Times.{here-is, times_from-is}
use Rattle.demands.specs.Slack.{F-is, sum-slots, idle_slots}
use Rattle.demands.specs.Gaps.{D-fits, Y-fits, fits_at}
use Rattle.demands.specs.Promise.{promise-idle}
use Rattle.theory.specs.Lent.{K-most}
use Rattle.demands.specs.Fit.{not_overloaded}
use Rattle.demands.specs.Nine.{fits_on}

-- ---- the statements

-- the last of the places or entries
abbrev pub last : List ℕ → ℕ
last xs = get_or xs (length xs - 1) 0

-- of K and D, for a table with a task that passes 1, 2 and 6
pub record StaticSays (ts : List Task) : Type 0 where
  -- each entry is at most the gap to the next place, and the last one to the window's end
  pub gap : (i : ℕ) → i < length (K ts) → get_or (K ts) i 0 + get_or (D ts) i 0 ≤ get_or (K ts ++ (window ts ∷ [])) (suc i) 0
  -- F is the window less the work of its requests
  pub idle_slots : F ts + table_due ts (window ts) ≡ window ts
  -- "the last is W − least x", "D: at the last place, least x"
  pub least : (j : ℕ) × (t : Task) × (slice_get ts j ≡ Some t)
      × ((i : ℕ) (s : Task) → slice_get ts i ≡ Some s → spare t ≤ spare s)
      × (last (K ts) ≡ window ts - spare t) × (last (D ts) ≡ spare t)
  -- at a window's start with all requests at C, Y is D
  pub fresh : Y ts (works ts) 0 ≡ D ts

-- of Y and idle until t, for such a table and a view that passes 9's first rule
pub record MovingSays (ts : List Task) (ls : List ℕ) (now : ℕ) : Type 0 where
  pub gap : (i : ℕ) → i < length (times ts (now % window ts))
      → get_or (times ts (now % window ts)) i 0 + get_or (Y ts ls (now % window ts)) i 0 ≤ get_or (times ts (now % window ts) ++ (window ts ∷ [])) (suc i) 0
  -- the sum of Y, the work due by the window's end and the offset make up the window
  pub idle_slots : sum (Y ts ls (now % window ts)) + due ts ls now (now / window ts * window ts + window ts) + now % window ts ≡ window ts
  -- n ≤ idle until t, in this window or a later one, exactly if n slots before t can be given away
  pub idle : (t : ℕ) → now ≤ t → (n : ℕ) → (n ≤ idle_until ts ls now t) ↔ ((u : ℕ) → t ≤ u → now + n + due ts ls now u ≤ u)
  -- "the least t with idle until t equal to need: time of the place + its idle − (running sum − need)"
  pub place : (n : ℕ) → 1 ≤ n → 1 ≤ F ts → LeastAfter (λ t. idle_until ts ls now t ≡ n) now (promise ts ls now n)
  -- where F is 0, no later window has an idle slot
  pub none_later : F ts ≡ 0 → (t : ℕ) → idle_until ts ls now t ≤ sum (Y ts ls (now % window ts))

-- ---- the last place

last_there : (d x : ℕ) (xs : List ℕ) → last_of d (x ∷ xs) ≡ get_or (x ∷ xs) (length xs) 0
unfolding last_of
last_there d x [] = refl
last_there d x (y ∷ ys) = last_there x y ys

last_is : (d x : ℕ) (xs : List ℕ) → last_of d (x ∷ xs) ≡ last (x ∷ xs)
last_is d x xs =
    let e : length xs ≡ length (x ∷ xs) - 1 = omega arith in
    last_there d x xs ∙ ap (λ (n : ℕ). get_or (x ∷ xs) n 0) e

at_least_each : (m : ℕ) (ts : List Task) → AtLeast m ts → (i : ℕ) (s : Task) → slice_get ts i ≡ Some s → m ≤ spare s
at_least_each m [] a i s e = let z : ◌≡◌ {A = ℕ} 0 1 = cc in absurd (omega arith)
at_least_each m (t ∷ ts) a zero s e = let h : t ≡ s = cc in rw h at a.0
at_least_each m (t ∷ ts) a (suc i) s e = at_least_each m ts a.1 i s e

least_met : (t : Task) (ts : List Task) → (j : ℕ) × (s : Task) × (slice_get (t ∷ ts) j ≡ Some s) × (spare s ≡ least_spare t ts)
unfolding least_spare
least_met t [] = (0, t, refl, refl)
least_met t (s ∷ ts) = elim (dec_le (spare t) (least_spare s ts)) [
  | yes h ↦ (0, t, refl, omega arith)
  | no h ↦ (let r = least_met s ts in (suc r.0, r.1, r.2, omega (arith, r.3)))
]

-- ---- a window's start

module _ (A B : ℕ → ℕ) (W : ℕ) where
  vec-same : (ks : List ℕ) → ((i : ℕ) → A (get_or ks i 0) ≡ B (get_or ks i 0)) → vec A W ks ≡ vec B W ks
  unfolding vec
  vec-same [] h = refl
  vec-same (k ∷ ks) h = rw (vec-same ks (λ i. h (suc i)), h 0)

module _ (ts : List Task) (good : AllGood ts) where
  fresh_above : (k : ℕ) → k ≤ window ts → above_moving ts (works ts) 0 (window ts) k ≡ above_static ts (window ts) k
  fresh_above k h =
      let W = window ts in
      let d = window-divides ts in
      let e = rw (zero-add k, zero-add W) at (due-split W ts (works ts) 0 0 k good d (zero_divides ts) (window-pos ts good) h) in
      omega (arith, e, table_split W ts k good d h, due-start ts k good, due-start ts W good)

  fresh_here : here ts 0 ≡ 0
  fresh_here = here-is ts 0 ∙ places_up_to-none (is_deadline ts) 0 0 (window ts) (omega arith)

  fresh_times : times_from ts 0 ≡ K ts
  unfolding K
  fresh_times = rw (times_from-is ts 0 (omega arith), sub-zero)

  -- At a window's start with all requests at C, Y is D.
  pub fresh_Y : Y ts (works ts) 0 ≡ D ts
  unfolding Y Y_from D
  fresh_Y =
      rw (fresh_here, fresh_times)
      (vec-same (above_moving ts (works ts) 0 (window ts)) (above_static ts (window ts)) (window ts) (K ts) (λ i. fresh_above (get_or (K ts) i 0) (K-most ts i)))

-- ---- F is 0

idle_at_most : (ks ys : List ℕ) (t : ℕ) → idle_up_to ks ys t ≤ sum ys
unfolding idle_up_to sum
idle_at_most [] ys t = omega arith
idle_at_most (k ∷ ks) [] t = omega arith
idle_at_most (k ∷ ks) (y ∷ ys) t = omega (arith, idle_at_most ks ys t)

-- Where F is 0, idle until any time is at most the sum of Y.
pub never_later : (ts : List Task) (ls : List ℕ) (now t : ℕ) → F ts ≡ 0 → idle_until ts ls now t ≤ sum (Y ts ls (now % window ts))
unfolding idle_until idle_in F
never_later ts ls now t z =
    let W = window ts in
    let v = now % W in
    let s = t - now / W * W in
    omega (
      arith,
      idle_at_most (times ts v) (Y ts ls v) s,
      idle_at_most (K ts) (D ts) ((s - W) % W),
      ap (λ (n : ℕ). (s - W) / W * n) z,
    )

-- ---- the theorems

-- K and D of a table with a task that passes 2 and 6 are what the paper says.
pub static_says : (t : Task) (ts : List Task) → AllGood (t ∷ ts) → overloaded_at (t ∷ ts) ≡ None → StaticSays (t ∷ ts)
unfolding K D vec
static_says t ts good fits =
    let m = least_met t ts in
    let all = t ∷ ts in
    record {
      gap = fits_at (window all) (K all) (D all) (D-fits all good);
      idle_slots = F-is all good (not_overloaded all good fits);
      least = (
        m.0,
        m.1,
        m.2,
        (λ i s e. rw m.3 (at_least_each (least_spare t ts) all (at_least t ts) i s e)),
        sym (last_is 0 _ _) ∙ K-last t ts good ∙ ap (λ (x : ℕ). window all - x) (sym m.3),
        sym (last_is 0 _ _) ∙ D-last t ts good ∙ sym m.3,
      );
      fresh = fresh_Y all good;
    }

-- Y and idle until t, in a view that passes 9's first rule, are what the paper says.
pub moving_says : (ts : List Task) → AllGood ts → overloaded_at ts ≡ None → (v : View) → overfull_at ts v ≡ None → MovingSays ts v.lefts v.now
moving_says ts good fits v room =
    let feasible = not_overloaded ts good fits in
    let ok = fits_on ts good feasible v room in
    let at = v.now % window ts in
    record {
      gap = fits_at (window ts) (times ts at) (Y ts v.lefts at) (Y-fits ts good v.lefts at (mod-lt v.now (window-pos ts good)));
      idle_slots = sum-slots ts good feasible v.lefts v.now ok;
      idle = idle_slots ts good feasible v.lefts v.now ok;
      place = λ n a f. promise-idle ts good feasible v.lefts v.now n ok a f;
      none_later = λ z t. never_later ts v.lefts v.now t z;
    }
