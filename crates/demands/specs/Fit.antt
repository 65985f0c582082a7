-- In a sound view refusals 8 and 9 are never given; and a table that is not refused 6 is feasible.
-- The tests of the paper, read as statements.
use Rattle.std.specs.Prelude.{ℕ, suc, ◌+◌, ◌-◌, ◌%◌, ◌≤◌, ◌≡◌, false, None}
use Rattle.std.proofs.Math.Path.{refl}
use Rattle.std.proofs.Common.{inl, inr, arith}
use Rattle.std.proofs.Math.Bool.{and-false}
use mathlib.Core.List.{List, [], ◌∷◌}
use Rattle.std.proofs.Math.Dec.{ltb}
use borrow.Author.Tests.{lt-leb, le-ltb, ltb-false, eq-eqb, ne_eqb}
use Rattle.paper.specs.declared.Task.{Task}
use Rattle.paper.specs.Demand.{AllGood, deadline_at, table_due, due}
use Rattle.paper.specs.Window.{window}
use Rattle.paper.specs.Vectors.{F}
use Rattle.paper.specs.Idle.{promise}
use Rattle.paper.specs.View.{Job, View}
use Rattle.paper.specs.Rule.{after, serve, runs_in}
use Rattle.paper.specs.Reached.{Reached}
use Rattle.paper.specs.Refusals.{overloaded_at, late_request, late_job, overdue, overdue_next, overfull_at, wrong_tallies, wrong_promise, wrong_promise_at}
use Rattle.theory.specs.Counting.{test}
use Rattle.theory.specs.Scan.{none_found, found_none}
use Rattle.theory.specs.Tables.{DoneBy, done_by}
use Rattle.demands.specs.Room.{Feasible, Room, Least, room_late, feasible_by_window}
use Rattle.demands.specs.Promise.{promise-least}
use Rattle.demands.specs.SlotKeeps.{Promised, Room', fits_after, kept_after, met}
use Rattle.demands.specs.Tallies.{tallies, room_idle}
use Rattle.demands.specs.SoundViews.{Sound, sound_start, sound_from, earliest_in}

-- ---- 6

-- A table that is not refused 6 is feasible: at no time more work is due than there are slots.
pub not_overloaded : (ts : List Task) → AllGood ts → overloaded_at ts ≡ None → Feasible ts
unfolding overloaded_at
not_overloaded ts g e =
    feasible_by_window ts g (λ u h. ltb-false u (table_due ts u)
    (found_none (λ u. ltb u (table_due ts u)) 0 (suc (window ts)) e u (omega arith) (omega arith)))

-- so what is reached of a table that is not refused 2 or 6 is sound
pub reached_sound : (ts : List Task) → AllGood ts → overloaded_at ts ≡ None → (v : View) → Reached ts v → Sound ts v
reached_sound ts g e v r =
    let f = not_overloaded ts g e in
    sound_from ts g f (sound_start ts g f) r

-- ---- 8

no_late_request : (ts : List Task) (ls : List ℕ) (now u : ℕ) → DoneBy ts ls now u → late_request ts ls now u ≡ false
unfolding late_request
no_late_request [] ls now u d = refl
no_late_request (t ∷ ts) [] now u d = refl
no_late_request (t ∷ ts) (l ∷ ls) now u d = elim (test (deadline_at t now) u) [
  | inl y ↦ rw (d 0 t refl y.1) (no_late_request ts ls now u (λ j. d (suc j)))
  | inr n ↦ rw (n.0, and-false) (no_late_request ts ls now u (λ j. d (suc j)))
]

no_late_job : (R : ℕ → ℕ → Type 0) (u : ℕ) → ((t n : ℕ) → R t n → u + n ≤ t) → (n : ℕ) (js : List Job) → Promised R n js
    → late_job js u ≡ false
unfolding late_job
no_late_job R u late n [] ps = refl
no_late_job R u late n (j ∷ js) ps =
    rw (lt-leb j.promise u (omega (arith, ps.0, late j.promise (n + j.left) ps.1.room)))
    (no_late_job R u late (n + j.left) js ps.2)

-- ---- 9

least_same : (R : ℕ → ℕ → Type 0) (n p q : ℕ) → Least R n p → Least R n q → p ≡ q
least_same R n p q a b = omega (arith, a.least q b.room, b.least p a.room)

module _ (ts : List Task) (good : AllGood ts) (feasible : Feasible ts) where
  no_wrong_promise : (ls : List ℕ) (now i n : ℕ) (js : List Job) → Room ts ls now now 0
      → ((t m : ℕ) → 1 ≤ m → Room ts ls now t m → 1 ≤ F ts) → Promised (Room ts ls now) n js → wrong_promise ts ls now i n js ≡ None
  unfolding wrong_promise
  no_wrong_promise ls now i n [] ok idle ps = refl
  no_wrong_promise ls now i n (j ∷ js) ok idle ps =
      let some_work : 1 ≤ n + j.left = omega (arith, ps.0) in
      let some_idle = idle j.promise (n + j.left) some_work ps.1.room in
      let e = least_same (Room ts ls now) (n + j.left) j.promise (promise ts ls now (n + j.left)) ps.1
      (promise-least ts good feasible ls now (n + j.left) ok some_work some_idle) in
      rw (ne_eqb (F ts) 0 (λ z. omega arith), eq-eqb _ _ e) (no_wrong_promise ls now (suc i) (n + j.left) js ok idle ps.2)

  module _ (v : View) (s : Sound ts v) where
    -- No unfinished work has its deadline or promise at or before now.
    pub not_overdue : overdue ts v ≡ false
    unfolding overdue
    not_overdue =
        rw (no_late_request ts v.lefts v.now v.now (done_by ts v.lefts v.now v.now (omega (arith, s.held.fits v.now (omega arith)))))
        (no_late_job (Room ts v.lefts v.now) v.now (λ t n r. room_late ts v.lefts v.now t n r) 0 v.jobs s.held.kept)

    -- None will have at the next now.
    pub not_overdue_next : overdue_next ts v ≡ false
    unfolding overdue_next
    not_overdue_next =
        let k = runs_in ts v in
        let e = earliest_in ts good feasible v in
        let ls = after k v.lefts in
        rw (no_late_request ts ls v.now (suc v.now) (met ts good ls v.now (fits_after ts good feasible v.lefts v.now s.held e)))
        (no_late_job (Room' ts ls v.now) (suc v.now) (λ t n r. omega (arith, r t (omega arith))) 0 (serve k v.jobs)
        (kept_after ts good feasible v.lefts v.now s.held e))

    -- 9's first rule is not given: what is due by any time to the window's end fits before it.
    pub not_overfull : overfull_at ts v ≡ None
    unfolding overfull_at
    not_overfull =
        none_found (λ u. ltb u (v.now + due ts v.lefts v.now u)) v.now (suc (window ts - v.now % window ts))
        (λ u i j. le-ltb u (v.now + due ts v.lefts v.now u) (omega (arith, s.held.fits u i)))

    -- 9's second rule is not given: F − A − I is the sum of Y.
    pub not_wrong_tallies : wrong_tallies ts v ≡ false
    unfolding wrong_tallies
    not_wrong_tallies = rw (eq-eqb _ _ (tallies ts good feasible v s.held.fits s.tallied))

    -- 9's third rule is not given: each promise is the least t for its job and those before it.
    pub not_wrong_promise : wrong_promise_at ts v ≡ None
    unfolding wrong_promise_at
    not_wrong_promise =
        no_wrong_promise v.lefts v.now 0 0 v.jobs s.held.fits (room_idle ts good feasible v s.held.fits s.tallied)
        s.held.kept
