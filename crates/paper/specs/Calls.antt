-- The calls: each is its refusals in its own order, and then its outcome: the answer, the state, and every lent vector to its end.
-- "A refusal gives number and place and the old state, every other number of the answer 0. Acceptance has number and place 0."
use Rattle.std.specs.Prelude.{ℕ, ◌%◌, ◌≡◌, cond, List, [], ◌∷◌, ◌++◌, eqb, length, take, drop}
use Rattle.paper.specs.declared.Task.{Task}
use Rattle.paper.specs.declared.Table.{Table}
use Rattle.paper.specs.declared.State.{State}
use Rattle.paper.specs.declared.Latest.{Latest}
use Rattle.paper.specs.declared.Who.TheVariants.{Idle}
use Rattle.paper.specs.declared.Verdict.{Verdict}
use Rattle.paper.specs.declared.PowerOnAnswer.{PowerOnAnswer}
use Rattle.paper.specs.declared.TableAnswer.{TableAnswer}
use Rattle.paper.specs.declared.MovingAnswer.{MovingAnswer}
use Rattle.paper.specs.declared.AdmissionAnswer.{AdmissionAnswer}
use Rattle.paper.specs.declared.SlotAnswer.{SlotAnswer}
use Rattle.paper.specs.Demand.{pick}
use Rattle.paper.specs.Window.{window}
use Rattle.paper.specs.Places.{K}
use Rattle.paper.specs.Vectors.{D, F, Y}
use Rattle.paper.specs.View.{View, power_on, request_lefts, view_of, state_of, tasks_of}
use Rattle.paper.specs.Idle.{promise_of}
use Rattle.paper.specs.Rule.{runs_in, next, said, said_numbers, ready_word, bit, ready_bit}
use Rattle.paper.specs.Refusals.{passed, refusal_1, refusal_2, refusal_3, refusal_4, refusal_5, refusal_6, refusal_7, refusal_8, refusal_8_slot}
use Rattle.paper.specs.Refusals.{refusal_9_work, refusal_9_tallies, refusal_9_promise, refusal_10, refusal_11, refusal_12, refusal_13, refusal_14, refusal_15}

-- ---- what all calls share

-- the first of a call's refusals that is given
unfoldable pub first_given : List Verdict → Verdict
first_given [] = passed
first_given (r ∷ rs) = cond (eqb r.number 0) (first_given rs) r

-- what acceptance gives, and what a refusal gives
abbrev pub accepted : {A : Type 0} → Verdict → A → A → A
accepted r good bad = cond (eqb r.number 0) good bad

-- "hold this paper's numbers in their first places ... and the rest is untouched"
abbrev pub filled : List ℕ → List ℕ → List ℕ
filled xs lent = xs ++ drop (length xs) lent

-- ---- a call's refusals: parts that calls share

abbrev pub one_to_three : Table → List Verdict
one_to_three t = refusal_1 t.count ∷ refusal_2 (tasks_of t) ∷ refusal_3 (tasks_of t) ∷ []

abbrev pub one_to_six : Table → List (List ℕ) → List Verdict
one_to_six t lent = one_to_three t ++ (refusal_4 (tasks_of t) ∷ refusal_5 (tasks_of t) lent ∷ refusal_6 (tasks_of t) ∷ [])

abbrev pub one_to_eight : Table → State → List (List ℕ) → List Verdict
one_to_eight t s lent = one_to_six t lent ++ (refusal_7 (tasks_of t) s ∷ refusal_8 (tasks_of t) (view_of t.count s) ∷ [])

abbrev pub nine_to_fourteen : List Task → View → ℕ → Latest → List Verdict
nine_to_fourteen ts v work latest =
    refusal_9_work ts v
    ∷ refusal_9_tallies ts v
    ∷ refusal_9_promise ts v
    ∷ refusal_10 work
    ∷ refusal_11 v
    ∷ refusal_12 ts
    ∷ refusal_13 (promise_of ts v work)
    ∷ refusal_14 (promise_of ts v work) latest
    ∷ []

-- ---- "Power-on state: 1, 2, a refusal giving the state all zero."

-- "A call that is handed no state refuses with the state all zero."
abbrev pub all_zero : State
all_zero = state_of (record { now = 0; lefts = []; jobs = []; given = 0; idle = 0 })

unfoldable pub power_on_verdict : Table → Verdict
power_on_verdict t = first_given (refusal_1 t.count ∷ refusal_2 (tasks_of t) ∷ [])

abbrev pub power_on_by : Verdict → Table → PowerOnAnswer
power_on_by r t = record { number = r.number; place = r.place; state = accepted r (state_of (power_on (tasks_of t))) all_zero }

unfoldable pub power_on_call : Table → PowerOnAnswer
power_on_call t = power_on_by (power_on_verdict t) t

-- ---- "Table check: 1 to 6." It "fills K and D only, and gives W, the places and F".

pub record TableOutcome : Type 0 where
  pub answer : TableAnswer
  pub k : List ℕ
  pub d : List ℕ

unfoldable pub table_verdict : Table → List ℕ → List ℕ → Verdict
table_verdict t k d = first_given (one_to_six t (k ∷ d ∷ []))

abbrev pub table_by : Verdict → List Task → List ℕ → List ℕ → TableOutcome
table_by r ts k d = record {
  answer = record {
    number = r.number;
    place = r.place;
    window = accepted r (window ts) 0;
    places = accepted r (length (K ts)) 0;
    idle = accepted r (F ts) 0;
  };
  k = accepted r (filled (K ts) k) k;
  d = accepted r (filled (D ts) d) d;
}

unfoldable pub table_call : Table → List ℕ → List ℕ → TableOutcome
table_call t k d = table_by (table_verdict t k d) (tasks_of t) k d

-- ---- "Moving vectors: 1 to 8", which "give the places"

pub record MovingOutcome : Type 0 where
  pub answer : MovingAnswer
  pub k : List ℕ
  pub d : List ℕ
  pub y : List ℕ

unfoldable pub moving_verdict : Table → State → List ℕ → List ℕ → List ℕ → Verdict
moving_verdict t s k d y = first_given (one_to_eight t s (k ∷ d ∷ y ∷ []))

-- "Y, at state offset v"
abbrev pub y_of : List Task → View → List ℕ
y_of ts v = Y ts v.lefts (v.now % window ts)

abbrev pub moving_by : Verdict → List Task → View → List ℕ → List ℕ → List ℕ → MovingOutcome
moving_by r ts v k d y = record {
  answer = record { number = r.number; place = r.place; places = accepted r (length (K ts)) 0 };
  k = accepted r (filled (K ts) k) k;
  d = accepted r (filled (D ts) d) d;
  y = accepted r (filled (y_of ts v) y) y;
}

unfoldable pub moving_call : Table → State → List ℕ → List ℕ → List ℕ → MovingOutcome
moving_call t s k d y = moving_by (moving_verdict t s k d y) (tasks_of t) (view_of t.count s) k d y

-- ---- "Admission: 1 to 14", which "gives the promise and the state with the job last"

pub record AdmissionOutcome : Type 0 where
  pub answer : AdmissionAnswer
  pub k : List ℕ
  pub d : List ℕ
  pub y : List ℕ

abbrev pub admitted : List Task → View → ℕ → View
admitted ts v w = record {
  now = v.now;
  lefts = v.lefts;
  jobs = v.jobs ++ (record { left = w; promise = promise_of ts v w } ∷ []);
  given = v.given;
  idle = v.idle;
}

unfoldable pub admission_verdict : Table → State → ℕ → Latest → List ℕ → List ℕ → List ℕ → Verdict
admission_verdict t s work latest k d y =
    first_given (one_to_eight t s (k ∷ d ∷ y ∷ []) ++ nine_to_fourteen (tasks_of t) (view_of t.count s) work latest)

abbrev pub admission_answer : Verdict → List Task → View → State → ℕ → AdmissionAnswer
admission_answer r ts v s work = record {
  number = r.number;
  place = r.place;
  promise = record { 0 = accepted r (promise_of ts v work) 0 };
  state = accepted r (state_of (admitted ts v work)) s;
}

-- "Refusals asked before 9 touch no vector. From 9 in a call's order on, and on acceptance, K, D and Y hold this paper's numbers":
-- before9 is the verdict of 1 to 8, and r that of 1 to 14
abbrev pub admission_by : (before9 r : Verdict) → List Task → View → State → ℕ → List ℕ → List ℕ → List ℕ → AdmissionOutcome
admission_by before9 r ts v s work k d y = record {
  answer = admission_answer r ts v s work;
  k = accepted before9 (filled (K ts) k) k;
  d = accepted before9 (filled (D ts) d) d;
  y = accepted before9 (filled (y_of ts v) y) y;
}

unfoldable pub admission_call : Table → State → ℕ → Latest → List ℕ → List ℕ → List ℕ → AdmissionOutcome
admission_call t s work latest k d y =
    admission_by (moving_verdict t s k d y) (admission_verdict t s work latest k d y) (tasks_of t) (view_of t.count s) s work k d y

-- ---- "Slot: 1, 2, 3, 7, 15, 8."

unfoldable pub slot_verdict : Table → State → Verdict
slot_verdict t s =
    first_given
    (one_to_three t
    ++ (refusal_7 (tasks_of t) s
    ∷ refusal_15 (view_of t.count s)
    ∷ refusal_8_slot (tasks_of t) (view_of t.count s)
    ∷ []))

abbrev pub slot_by : Verdict → List Task → View → State → SlotAnswer
slot_by r ts v s = record {
  number = r.number;
  place = r.place;
  who = accepted r (said (runs_in ts v) v.jobs) Idle;
  ready = accepted r (ready_word (next ts v).lefts) 0;
  state = accepted r (state_of (next ts v)) s;
}

unfoldable pub slot_call : Table → State → SlotAnswer
slot_call t s = slot_by (slot_verdict t s) (tasks_of t) (view_of t.count s) s

-- "bit j−1 of a sixteen-bit word is set exactly when task j has work left", bit by bit: of a slot's number and word, and of the request
-- records of the state that it leaves. "A refusal gives ... every other number of the answer 0."
abbrev pub ReadyBits : ℕ → ℕ → State → Type 0
ReadyBits number word s = (j : ℕ) → bit word j ≡ pick (eqb number 0) (ready_bit (request_lefts (take 16 s.requests)) j) 0

-- the paper's number and values of what the slot did: 0 on a refusal
unfoldable pub slot_numbers : Table → State → List ℕ
slot_numbers t s =
    accepted (slot_verdict t s) (said_numbers (runs_in (tasks_of t) (view_of t.count s)) (view_of t.count s).jobs) (0 ∷ [])
