-- Every view that is reached is shaped as refusal 7 asks: lefts are at most C, promises rise, and A + I is at most the offset.
-- (The bounds of the machine, H and eight jobs among them, are asked by the calls.)
use Rattle.std.specs.Prelude.{ℕ, zero, suc, ◌+◌, ◌-◌, ◌%◌, ◌≤◌, ◌<◌, ◌≡◌, Bool, true, false, List, [], ◌∷◌, eqb, get_or, set}
use Rattle.std.proofs.Common.{arith, le_refl, ne_eqb}
use Rattle.paper.specs.declared.Task.{Task}
use Rattle.paper.specs.Demand.{pick, AllGood, works}
use Rattle.paper.specs.Window.{window}
use Rattle.paper.specs.View.{Job, View, power_on}
use Rattle.paper.specs.Rule.{Does, nothing, task, job, after, enter, job_unit, idle_unit, tally, runs_in, doing, next}
use Rattle.paper.specs.Reached.{From, start, slot, admit, Reached}
use Rattle.theory.specs.Counting.{Tick, starts, goes_on, tick}
use Rattle.theory.specs.WindowLaws.{window-pos}
use Rattle.demands.specs.Room.{Feasible, Room, room_late, room_step}
use Rattle.demands.specs.SlotKeeps.{Promised}
use Rattle.theory.specs.States.{AtMostC}
use Rattle.demands.specs.SoundViews.{sound_start, sound_from}

-- ---- refusal 7, as far as a view shows it: "left 0 or above C", "job left 0", "promises not rising", "A + I above the offset"

-- every promise lies above the one before it, the first above low, and every job has work left
abbrev pub Rising : ℕ → List Job → Type 0
Rising low [] = Unit {0}
Rising low (j ∷ js) = (low < j.promise) × (1 ≤ j.left) × Rising j.promise js

-- what 7 asks of a view
pub record Shaped (ts : List Task) (v : View) : Type 0 where
  pub requests : AtMostC ts v.lefts
  pub waiting : Rising v.now v.jobs
  pub tallies : v.given + v.idle ≤ v.now % window ts

-- ---- lefts

works-at_most : (ts : List Task) → AtMostC ts (works ts)
unfolding works
works-at_most [] = tt
works-at_most (t ∷ ts) = (le_refl t.work, works-at_most ts)

set_at_most : (ts : List Task) (ls : List ℕ) (j : ℕ) → AtMostC ts ls → AtMostC ts (set ls j (get_or ls j 0 - 1))
set_at_most [] ls j a = tt
set_at_most (t ∷ ts) [] j a = tt
set_at_most (t ∷ ts) (l ∷ ls) zero a = (omega (arith, a.0), a.1)
set_at_most (t ∷ ts) (l ∷ ls) (suc j) a = (a.0, set_at_most ts ls j a.1)

after-at_most : (ts : List Task) (k : Does) (ls : List ℕ) → AtMostC ts ls → AtMostC ts (after k ls)
unfolding after
after-at_most ts nothing ls a = a
after-at_most ts (task j) ls a = set_at_most ts ls j a
after-at_most ts job ls a = a

pick_at_most : (b : Bool) (c l : ℕ) → l ≤ c → pick b c l ≤ c
pick_at_most true c l h = le_refl c
pick_at_most false c l h = h

none_at_most : (ts : List Task) → AtMostC ts []
none_at_most [] = tt
none_at_most (t ∷ ts) = tt

enter-at_most : (ts : List Task) (s : ℕ) (ls : List ℕ) → AtMostC ts ls → AtMostC ts (enter ts s ls)
unfolding enter
enter-at_most [] s ls a = tt
enter-at_most (t ∷ ts) s [] a = (pick_at_most (eqb (s % t.period) 0) t.work 0 (omega arith), enter-at_most ts s [] (none_at_most ts))
enter-at_most (t ∷ ts) s (l ∷ ls) a = (pick_at_most (eqb (s % t.period) 0) t.work l a.0, enter-at_most ts s ls a.1)

-- ---- tallies

one_unit : (k : Does) → job_unit k + idle_unit k ≤ 1
one_unit nothing = le_refl 1
one_unit (task j) = omega arith
one_unit job = le_refl 1

small_next : (ts : List Task) (v : View) (k : Does) → AllGood ts → v.given + v.idle ≤ v.now % window ts
    → (doing ts k v).given + (doing ts k v).idle ≤ suc v.now % window ts
unfolding doing tally
small_next ts v k g h = go (tick (window ts) v.now (window-pos ts g))
  where
    go : Tick (window ts) v.now → (doing ts k v).given + (doing ts k v).idle ≤ suc v.now % window ts
    go (starts z q m) = rw z (omega arith)
    go (goes_on z q m) = rw (ne_eqb (suc v.now % window ts) 0 z, m) (omega (arith, one_unit k))

-- ---- promises

-- Promises that are the least for their needs rise.
pub promises_rise : (ts : List Task) (ls : List ℕ) (now : ℕ) → AllGood ts → (n low : ℕ) (js : List Job)
    → ((t : ℕ) → Room ts ls now t n → low ≤ t)
    → Promised (Room ts ls now) n js → Rising low js
promises_rise ts ls now g n low [] below ps = tt
promises_rise ts ls now g n low (j ∷ js) below ps =
    let p = j.promise in
    let r = ps.1.room in
    let e : suc (p - 1) ≡ p = omega (arith, ps.0, room_late ts ls now p (n + j.left) r) in (
      omega (arith, below (p - 1) (room_step ts ls now (p - 1) n g (λ u h. omega (arith, ps.0, r u (omega arith))))),
      ps.0,
      promises_rise ts ls now g (n + j.left) p js ps.1.least ps.2,
    )

-- ---- all three

-- what slots and admissions keep of it whether or not the view is sound
pub record Small (ts : List Task) (v : View) : Type 0 where
  pub lefts : AtMostC ts v.lefts
  pub tallies : v.given + v.idle ≤ v.now % window ts

-- Power-on has it.
pub small_start : (ts : List Task) → Small ts (power_on ts)
small_start ts = record { lefts = works-at_most ts; tallies = omega arith }

-- Slots and admissions keep it.
pub small_from : {ts : List Task} {v₀ v : View} → AllGood ts → Small ts v₀ → From ts v₀ v → Small ts v
unfolding next doing
small_from g s start = s
small_from {ts} g s (slot {v} r) =
    let old = small_from g s r in
    record {
      lefts = enter-at_most ts (suc v.now) (after (runs_in ts v) v.lefts) (after-at_most ts (runs_in ts v) v.lefts old.lefts);
      tallies = small_next ts v (runs_in ts v) g old.tallies;
    }
small_from g s (admit r w a f) = let old = small_from g s r in record { lefts = old.lefts; tallies = old.tallies }

-- Every reached view is shaped as 7 asks.
pub shaped : (ts : List Task) → AllGood ts → Feasible ts → (v : View) → Reached ts v → Shaped ts v
shaped ts g f v r =
    let small = small_from g (small_start ts) r in
    let s = sound_from ts g f (sound_start ts g f) r in
    record {
      requests = small.lefts;
      waiting = promises_rise ts v.lefts v.now g 0 v.now v.jobs
          (λ t q. omega (arith, room_late ts v.lefts v.now t 0 q)) s.held.kept;
      tallies = small.tallies;
    }
