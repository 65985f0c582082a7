-- "Idle until time t is the total of Y up to t, ... then D repeated for each later window", and the promise.
-- The lefts ls and the time now are those of a state; times are slots, and an offset is marked as such.
use Rattle.std.specs.Prelude.{ℕ, ◌+◌, ◌*◌, ◌-◌, ◌/◌, ◌%◌, ◌≤◌, ◌<◌, min, List, [], ◌∷◌, leb}
use Rattle.paper.specs.declared.Task.{Task}
use Rattle.paper.specs.Demand.{pick}
use Rattle.paper.specs.Window.{window}
use Rattle.paper.specs.Places.{K}
use Rattle.paper.specs.Vectors.{sum, D, F, times, Y}
use Rattle.paper.specs.View.{Job, View}

-- "with each place's idle lying directly after its time": of the places ks with the entries ys, up to the offset t
unfoldable pub idle_up_to : List ℕ → List ℕ → ℕ → ℕ
idle_up_to [] ys t = 0
idle_up_to (k ∷ ks) [] t = 0
idle_up_to (k ∷ ks) (y ∷ ys) t = min y (t - k) + idle_up_to ks ys t

-- Y, and then D for each later window: at offset v, up to the offset t, which may lie past the window
unfoldable pub idle_in : List Task → List ℕ → ℕ → ℕ → ℕ
idle_in ts ls v t =
    idle_up_to (times ts v) (Y ts ls v) t
    + ((t - window ts) / window ts * F ts + idle_up_to (K ts) (D ts) ((t - window ts) % window ts))

unfoldable pub idle_until : List Task → List ℕ → ℕ → ℕ → ℕ
idle_until ts ls now t = idle_in ts ls (now % window ts) (t - now / window ts * window ts)

-- "time of the place + its idle − (running sum − need)", at the first place where the running sum, before it `before`, reaches the need
unfoldable pub reach : List ℕ → List ℕ → ℕ → ℕ → ℕ
reach [] ys before need = 0
reach (k ∷ ks) [] before need = 0
reach (k ∷ ks) (y ∷ ys) before need =
    pick (leb need (before + y)) (k + y - (before + y - need)) (reach ks ys (before + y) need)

-- for need in the windows after the present one, from the start of the first of them: whole windows of F, and then D
unfoldable pub promise_later : List Task → ℕ → ℕ
promise_later ts need = (need - 1) / F ts * window ts + reach (K ts) (D ts) 0 (need - (need - 1) / F ts * F ts)

-- an offset
unfoldable pub promise_in : List Task → List ℕ → ℕ → ℕ → ℕ
promise_in ts ls v need =
    pick (leb need (sum (Y ts ls v))) (reach (times ts v) (Y ts ls v) 0 need)
    (window ts + promise_later ts (need - sum (Y ts ls v)))

-- "The promise is the least t with idle until t equal to need": a slot. It is meant where F is not 0.
unfoldable pub promise : List Task → List ℕ → ℕ → ℕ → ℕ
promise ts ls now need = now / window ts * window ts + promise_in ts ls (now % window ts) need

-- "Need = work left of all waiting jobs + the new work."
unfoldable pub job_lefts : List Job → List ℕ
job_lefts [] = []
job_lefts (j ∷ js) = j.left ∷ job_lefts js

abbrev pub need : View → ℕ → ℕ
need v w = sum (job_lefts v.jobs) + w

-- the promise that new work w gets
abbrev pub promise_of : List Task → View → ℕ → ℕ
promise_of ts v w = promise ts v.lefts v.now (need v w)

-- what "the least t" after now is
pub record LeastAfter (P : ℕ → Type 0) (now p : ℕ) : Type 0 where
  pub after : now < p
  pub holds : P p
  pub least : (t : ℕ) → now ≤ t → P t → p ≤ t
