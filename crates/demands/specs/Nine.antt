-- Refusal 9 says exactly that a view is sound: its three rules hold of a view, reached or not, exactly if it is held and tallied.
-- So every state that passes 7 to 9 keeps its promises. Of 7 only this is needed: a waiting job has work left.
use Rattle.std.specs.Prelude.{ℕ, suc, ◌+◌, ◌-◌, ◌%◌, ◌≤◌, ◌≡◌, refl, ◌↔◌, Bool, true, false, not, cond, ◌||◌, eqb, Option, None, Some}
use mathlib.Core.List.{List, [], ◌∷◌}
use native.Mathlib.Omega.{arith}
use Rattle.std.proofs.Math.Nat.{div-add-mod', mod-lt}
use Rattle.std.proofs.Math.Dec.{ltb}
use borrow.Author.Tests.{ltb-false, eqb-true, eqb-false, not-false}
use Rattle.paper.specs.declared.Task.{Task}
use Rattle.paper.specs.Demand.{AllGood, due}
use Rattle.paper.specs.Window.{window}
use Rattle.paper.specs.Vectors.{sum, F, Y}
use Rattle.paper.specs.Idle.{promise}
use Rattle.paper.specs.View.{Job, View}
use Rattle.paper.specs.Refusals.{overfull_at, wrong_tallies, wrong_promise, wrong_promise_at}
use Rattle.theory.specs.WindowLaws.{window-pos}
use Rattle.demands.specs.Room.{Feasible, Room, room_by_window}
use Rattle.demands.specs.Promise.{promise-least}
use Rattle.demands.specs.SlotKeeps.{Promised}
use Rattle.demands.specs.Slack.{F-is, sum-slots}
use Rattle.demands.specs.Tallies.{end_of, end_divides, now_before_end, Tallied}
use Rattle.demands.specs.SoundViews.{Sound}
use Rattle.theory.specs.Scan.{found_none}
use Rattle.theory.specs.States.{SomeLeft}
use Rattle.demands.specs.Fit.{not_overfull, not_wrong_tallies, not_wrong_promise}

-- what a sound view's jobs are, too
pub promised_left : (R : ℕ → ℕ → Type 0) (n : ℕ) (js : List Job) → Promised R n js → SomeLeft js
promised_left R n [] ps = tt
promised_left R n (j ∷ js) ps = (ps.0, promised_left R (n + j.left) js ps.2)

-- a test of three that finds no job
right_promise : (f p q n : ℕ) (rest : Option ℕ) → cond (eqb f 0 || not (eqb p q)) (Some n) rest ≡ None
    → (1 ≤ f) × (p ≡ q) × (rest ≡ None)
right_promise f p q n rest = go (eqb f 0) (eqb p q) refl refl
  where
    go : (a b : Bool) → eqb f 0 ≡ a → eqb p q ≡ b → cond (a || not b) (Some n) rest ≡ None → (1 ≤ f) × (p ≡ q) × (rest ≡ None)
    go true b x y e = let z : ◌≡◌ {A = ℕ} 0 1 = cc in absurd (omega arith)
    go false true x y e = (omega (arith, eqb-false f 0 x), eqb-true p q y, e)
    go false false x y e = let z : ◌≡◌ {A = ℕ} 0 1 = cc in absurd (omega arith)

module _ (ts : List Task) (good : AllGood ts) (feasible : Feasible ts) where
  -- 9's first rule, to the window's end, says that all that is due fits from now on
  pub fits_on : (v : View) → overfull_at ts v ≡ None → Room ts v.lefts v.now v.now 0
  unfolding overfull_at
  fits_on v e =
      let W = window ts in
      let now = v.now in
      let end = end_of ts now in
      let d = div-add-mod' now W in
      let m = mod-lt now (window-pos ts good) in
      room_by_window ts v.lefts now now 0 end good feasible (end_divides ts good feasible now) (now_before_end ts good feasible now) (omega arith)
      (λ u a b. omega (
        arith,
        ltb-false u (now + due ts v.lefts now u)
            (found_none (λ u. ltb u (now + due ts v.lefts now u)) now (suc (W - now % W)) e u a (omega arith)),
      ))

  -- 9's second rule: the tallies are those of the slots run
  pub tallies_slots : (v : View) → Room ts v.lefts v.now v.now 0
      → v.given + v.idle + sum (Y ts v.lefts (v.now % window ts)) ≡ F ts → Tallied ts v
  tallies_slots v ok e = record { slots = omega (arith, e, F-is ts good feasible, sum-slots ts good feasible v.lefts v.now ok) }

  right_tallies : (v : View) → wrong_tallies ts v ≡ false → v.given + v.idle + sum (Y ts v.lefts (v.now % window ts)) ≡ F ts
  unfolding wrong_tallies
  right_tallies v e =
      let A = v.given + v.idle + sum (Y ts v.lefts (v.now % window ts)) in
      eqb-true A (F ts) (not-false (eqb A (F ts)) e)

  -- 9's third rule: the promises are the least
  right_promises : (ls : List ℕ) (now i n : ℕ) (js : List Job) → Room ts ls now now 0 → SomeLeft js → wrong_promise ts ls now i n js ≡ None
      → Promised (Room ts ls now) n js
  unfolding wrong_promise
  right_promises ls now i n [] ok l e = tt
  right_promises ls now i n (j ∷ js) ok l e =
      let q = promise ts ls now (n + j.left) in
      let r = right_promise (F ts) j.promise q (suc i) (wrong_promise ts ls now (suc i) (n + j.left) js) e in (
        l.0,
        rw r.1 (promise-least ts good feasible ls now (n + j.left) ok (omega (arith, l.0)) r.0),
        right_promises ls now (suc i) (n + j.left) js ok l.1 r.2,
      )

  -- REFUSAL 9
  pub nine_sound : (v : View) → SomeLeft v.jobs
      → ((overfull_at ts v ≡ None) × (wrong_tallies ts v ≡ false) × (wrong_promise_at ts v ≡ None)) ↔ Sound ts v
  unfolding wrong_promise_at
  nine_sound v l = (
    λ e. let ok = fits_on v e.0 in record {
      held = record { fits = ok; kept = right_promises v.lefts v.now 0 0 v.jobs ok l e.2 };
      tallied = tallies_slots v ok (right_tallies v e.1);
    },
    λ s. (not_overfull ts good feasible v s, not_wrong_tallies ts good feasible v s, not_wrong_promise ts good feasible v s),
  )
