-- The ready word of a slot's answer, bit by bit: bit j is set exactly when request j of the new state has work left, and a refusal has none.
use mathlib.Core.Path.{◌≡◌, refl, sym, ap, ◌∙◌}
use mathlib.Core.List.{List, [], ◌∷◌, ◌++◌}
use Prim.Native.Nat.{ℕ, zero, suc, ◌-◌, ◌^◌, ◌≤◌}
use native.Mathlib.Omega.{arith}
use native.Mathlib.Decide.{ℕ_discrete}
use native.Mathlib.Nat.{zero-div}
use lib.ListN.{length, take, get_or, replicate, length-take}
use lib.Seq.{take_all}
use borrow.Author.Tests.{eq-eqb, ne_eqb}
use Rattle.paper.specs.declared.Task.{Task}
use Rattle.paper.specs.declared.Table.{Table}
use Rattle.paper.specs.declared.Request.{Request}
use Rattle.paper.specs.declared.State.{State}
use Rattle.paper.specs.declared.Verdict.{Verdict}
use Rattle.paper.specs.declared.SlotAnswer.{SlotAnswer}
use Rattle.paper.specs.View.{View, left_of, request_lefts, requests_of, no_request, padded, view_of, state_of, tasks_of}
use Rattle.paper.specs.Rule.{doing, runs_in, next, after}
use Rattle.paper.specs.Calls.{slot_by, slot_verdict, slot_call, ReadyBits}
use Rattle.theory.specs.Verdicts.{none_given}
use Rattle.theory.specs.Ready.{count-in}
use Rattle.theory.specs.Padded.{padded_is, length-padded}
use Rattle.theory.specs.States.{left_at, lefts_back, requests_length, enter-length}
use Rattle.theory.specs.ReadyWord.{word_bit}

-- past the used places stands what an unused place holds
pad_at : {A : Type 0} (a : A) (xs : List A) (n j : ℕ) → get_or (xs ++ replicate n a) j a ≡ get_or xs j a
pad_at a [] zero j = refl
pad_at a [] (suc n) zero = refl
pad_at a [] (suc n) (suc j) = pad_at a [] n j
pad_at a (x ∷ xs) n zero = refl
pad_at a (x ∷ xs) n (suc j) = pad_at a xs n j

-- the sixteen records of a view's state have its lefts, and nothing left in an unused place
record_left : (v : View) (j : ℕ) → length v.lefts ≤ 16 → get_or (request_lefts (take 16 (state_of v).requests)) j 0 ≡ get_or v.lefts j 0
unfolding state_of
record_left v j h =
    let rs = requests_of v.lefts in
    let n = requests_length v.lefts in
    let all : take 16 (padded 16 no_request rs) ≡ rs ++ replicate (16 - length rs) no_request =
    take_all 16 (padded 16 no_request rs) (omega (arith, length-padded no_request 16 rs)) ∙ padded_is no_request 16 rs (omega arith) in
    ap (λ (l : List Request). get_or (request_lefts l) j 0) all
    ∙ left_at (rs ++ replicate (16 - length rs) no_request) j
    ∙ ap (λ (r : Request). left_of r.work) (pad_at no_request rs (16 - length rs) j)
    ∙ sym (left_at rs j)
    ∙ ap (λ (ls : List ℕ). get_or ls j 0) (lefts_back v.lefts)

few_lefts : (t : Table) (s : State) → (slot_verdict t s).number ≡ 0 → length (next (tasks_of t) (view_of t.count s)).lefts ≤ 16
unfolding slot_verdict next doing tasks_of
few_lefts t s z =
    let v = view_of t.count s in
    let few = (count-in t.count (none_given _ z).0).1 in
    omega (arith, few, enter-length (tasks_of t) (suc v.now) (after (runs_in (tasks_of t) v) v.lefts), length-take t.count t.tasks)

bits_by : (r : Verdict) (ts : List Task) (v : View) (s : State) → (r.number ≡ 0 → length (next ts v).lefts ≤ 16)
    → ReadyBits (slot_by r ts v s).number (slot_by r ts v s).ready (slot_by r ts v s).state
bits_by r ts v s few j =
    elim (ℕ_discrete r.number 0) [
      | yes z ↦ rw (eq-eqb r.number 0 z, record_left (next ts v) j (few z)) (word_bit (next ts v).lefts j)
      | no z ↦ rw (ne_eqb r.number 0 z, zero-div (2 ^ j))
    ]

-- the word of an answer that is the paper's
pub bits_told : (t : Table) (s : State) (r : SlotAnswer) → r ≡ slot_call t s → ReadyBits r.number r.ready r.state
unfolding slot_call
bits_told t s r q j = rw q (bits_by (slot_verdict t s) (tasks_of t) (view_of t.count s) s (few_lefts t s) j)
