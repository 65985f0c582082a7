-- Each refusal gives its own number or none: no number of the paper's table stands for two of them.
-- With the first of a call's refusals settled, what the call answers tells whether that one is given.
use Rattle.std.specs.Prelude.{ℕ, ◌%◌, ◌+◌, ◌<◌, ◌≡◌, refl, Bool, true, false, ◌||◌, List, [], ◌∷◌, ◌++◌, ◌↔◌, ◌≢◌, ◌⊎◌, leb, ltb, eqb, length, take, drop}
use Rattle.std.proofs.Common.{sym, ap, ◌∙◌, inl, inr, arith}
use Rattle.std.specs.Prelude.{Option, None, Some}
use Rattle.std.proofs.Math.Decide.{ℕ_discrete}
use Rattle.paper.specs.declared.Task.{Task}
use Rattle.paper.specs.declared.State.{State}
use Rattle.paper.specs.declared.Latest.{Latest}
use Rattle.paper.specs.declared.Verdict.{Verdict}
use Rattle.paper.specs.Window.{window}
use Rattle.paper.specs.Places.{K}
use Rattle.paper.specs.Vectors.{F}
use Rattle.paper.specs.View.{View}
use Rattle.paper.specs.Refusals.{H, when, at, found, first_breaking, one_shorter, overloaded_at, bad_requests, bad_waiting, one_used, overdue, overdue_next}
use Rattle.paper.specs.Refusals.{overfull_at, wrong_tallies, wrong_promise_at, too_late, refusal_1, refusal_2, refusal_3, refusal_4, refusal_5, refusal_6}
use Rattle.paper.specs.Refusals.{refusal_7, refusal_8, refusal_8_slot, refusal_9_work, refusal_9_tallies, refusal_9_promise, refusal_10, refusal_11}
use Rattle.paper.specs.Refusals.{refusal_12, refusal_13, refusal_14, refusal_15}
use Rattle.paper.specs.Calls.{first_given}
use Rattle.theory.specs.Verdicts.{given_first, passed_first, passed-all}

-- of a verdict: the number n or none
abbrev pub Own : ℕ → ℕ → Type 0
Own n k = (k ≡ 0) ⊎ (k ≡ n)

own_when : (b : Bool) (n : ℕ) → Own n (when b n).number
own_when true n = inr refl
own_when false n = inl refl

own_at : (o : Option ℕ) (n : ℕ) → Own n (at o n).number
own_at None n = inl refl
own_at (Some p) n = inr refl

-- Of 1.
pub own_1 : (n : ℕ) → Own 1 (refusal_1 n).number
unfolding refusal_1
own_1 n = own_when (ltb n 1 || ltb 16 n) 1

-- Of 2.
pub own_2 : (ts : List Task) → Own 2 (refusal_2 ts).number
unfolding refusal_2
own_2 ts = own_at (first_breaking 0 ts) 2

-- Of 3.
pub own_3 : (ts : List Task) → Own 3 (refusal_3 ts).number
unfolding refusal_3
own_3 ts = own_when (ltb 30000 (window ts)) 3

-- Of 4.
pub own_4 : (ts : List Task) → Own 4 (refusal_4 ts).number
unfolding refusal_4
own_4 ts = own_when (ltb 1024 (length (K ts))) 4

-- Of 5.
pub own_5 : (ts : List Task) (lent : List (List ℕ)) → Own 5 (refusal_5 ts lent).number
unfolding refusal_5
own_5 ts lent = own_when (one_shorter (length (K ts)) lent) 5

-- Of 6.
pub own_6 : (ts : List Task) → Own 6 (refusal_6 ts).number
unfolding refusal_6
own_6 ts = own_at (overloaded_at ts) 6

-- Of 7.
pub own_7 : (ts : List Task) (s : State) → Own 7 (refusal_7 ts s).number
unfolding refusal_7
own_7 ts s = own_when (ltb H s.now.0
    || (bad_requests ts s.requests
    || (ltb 8 s.waiting
    || (bad_waiting 0 (take s.waiting s.jobs)
    || (one_used (drop s.waiting s.jobs)
    || ltb (s.now.0 % window ts) (s.given + s.idle)))))) 7

-- Of 8.
pub own_8 : (ts : List Task) (v : View) → Own 8 (refusal_8 ts v).number
unfolding refusal_8
own_8 ts v = own_when (overdue ts v) 8

-- Of 8, as a slot asks it.
pub own_8_slot : (ts : List Task) (v : View) → Own 8 (refusal_8_slot ts v).number
unfolding refusal_8_slot
own_8_slot ts v = own_when (overdue ts v || overdue_next ts v) 8

-- Of 9, by its first rule.
pub own_9_work : (ts : List Task) (v : View) → Own 9 (refusal_9_work ts v).number
unfolding refusal_9_work
own_9_work ts v = own_when (found (overfull_at ts v)) 9

-- Of 9, by its second rule.
pub own_9_tallies : (ts : List Task) (v : View) → Own 9 (refusal_9_tallies ts v).number
unfolding refusal_9_tallies
own_9_tallies ts v = own_when (wrong_tallies ts v) 9

-- Of 9, by its third rule.
pub own_9_promise : (ts : List Task) (v : View) → Own 9 (refusal_9_promise ts v).number
unfolding refusal_9_promise
own_9_promise ts v = own_when (found (wrong_promise_at ts v)) 9

-- Of 10.
pub own_10 : (work : ℕ) → Own 10 (refusal_10 work).number
unfolding refusal_10
own_10 work = own_when (eqb work 0 || ltb 30000 work) 10

-- Of 11.
pub own_11 : (v : View) → Own 11 (refusal_11 v).number
unfolding refusal_11
own_11 v = own_when (leb 8 (length v.jobs)) 11

-- Of 12.
pub own_12 : (ts : List Task) → Own 12 (refusal_12 ts).number
unfolding refusal_12
own_12 ts = own_when (eqb (F ts) 0) 12

-- Of 13.
pub own_13 : (p : ℕ) → Own 13 (refusal_13 p).number
unfolding refusal_13
own_13 p = own_when (ltb H p) 13

-- Of 14.
pub own_14 : (p : ℕ) (latest : Latest) → Own 14 (refusal_14 p latest).number
unfolding refusal_14
own_14 p latest = own_when (too_late p latest) 14

-- Of 15.
pub own_15 : (v : View) → Own 15 (refusal_15 v).number
unfolding refusal_15
own_15 v = own_when (leb H v.now) 15

-- ---- a call whose first refusal is number n, and whose others are all others

-- none of these refusals gives the number n
abbrev pub Others : ℕ → List Verdict → Type 0
Others n [] = Unit {0}
Others n (r ∷ rs) = (r.number ≢ n) × Others n rs

-- Two lists that do not give n do not give it together.
pub both_others : (n : ℕ) (rs ss : List Verdict) → Others n rs → Others n ss → Others n (rs ++ ss)
both_others n [] ss p q = q
both_others n (r ∷ rs) ss p q = (p.0, both_others n rs ss p.1 q)

-- an own number that is not n
pub other : {n m k : ℕ} → Own m k → 0 < n → n ≢ m → k ≢ n
other (inl z) p d e = omega arith
other (inr z) p d e = d (sym e ∙ z)

others : (n : ℕ) → 0 < n → (rs : List Verdict) → Others n rs → (first_given rs).number ≢ n
others n p [] os e = omega (arith, ap (λ (v : Verdict). v.number) passed-all)
others n p (r ∷ rs) os e =
    elim (ℕ_discrete r.number 0) [
      | yes z ↦ others n p rs os.1 (rw (passed_first r rs z) at e)
      | no z ↦ os.0 (rw (given_first r rs (omega arith)) at e)
    ]

-- the call answers n exactly if its first refusal is given
pub first-asked : (n : ℕ) → 0 < n → (r : Verdict) (rs : List Verdict) → Others n rs → ((first_given (r ∷ rs)).number ≡ n) ↔ (r.number ≡ n)
first-asked n p r rs os = (
  λ e.
      elim (ℕ_discrete r.number 0) [
        | yes z ↦ absurd (others n p rs os (rw (passed_first r rs z) at e))
        | no z ↦ rw (given_first r rs (omega arith)) at e
      ],
  λ e. rw (given_first r rs (omega arith)) e,
)
