-- How Stars.antt and Examples.antt ask: a call and its input, and beside them what the paper says of it, in numbers.
-- A list of these is right if every one of them holds. The numbers of the paper stand in the lists, never here.
use Rattle.std.specs.Prelude.{ℕ, zero, suc, ◌-◌, Bool, true, false, ◌&&◌, List, [], ◌∷◌, ◌++◌, eqb, length, drop, replicate, Option, None, Some}
use Prim.Native.Char.{code}
use Prim.Native.String as S
use Rattle.paper.specs.declared.Task.{Task}
use Rattle.paper.specs.declared.Work.{Work}
use Rattle.paper.specs.declared.Work.TheVariants.{Done, Left}
use Rattle.paper.specs.declared.Request.{Request}
use Rattle.paper.specs.declared.Job.{Job}
use Rattle.paper.specs.declared.State.{State}
use Rattle.paper.specs.declared.Latest.{Latest}
use Rattle.paper.specs.declared.Latest.TheVariants.{None as NoLatest, By}
use Rattle.paper.specs.declared.Arrival.{Arrival}
use Rattle.paper.specs.declared.SlotAnswer.{SlotAnswer}
use Rattle.paper.specs.declared.PowerOnAnswer.{PowerOnAnswer}
use Rattle.paper.specs.declared.BootAnswer.{BootAnswer}
use Rattle.paper.specs.Demand.{dues, present, deadline_at, present_due, later_due, due, table_due, works}
use Rattle.paper.specs.Window.{gcd_in, gcd, lcm, window_from, window}
use Rattle.paper.specs.View.{request_lefts, jobs_of, view_of, requests_of, job_records, state_of, tasks_of, table_of}
use Rattle.paper.specs.Places.{spare, is_deadline, places_in, K}
use Rattle.paper.specs.Vectors.{sum, vec, above_static, D, F, left_above, later_above, above_moving, places_up_to, here, times_from, times, Y_from, Y}
use Rattle.paper.specs.Idle.{reach, promise_later, promise_in, promise, job_lefts}
use Rattle.paper.specs.Rule.{first, runs, after, onward, serve, enter, tally, doing, next, said, said_numbers, numbers_of, ready_word}
use Rattle.paper.specs.Refusals.{first_of, refusal_1, breaks, first_breaking, refusal_2, refusal_3, refusal_4, one_shorter, refusal_5, overloaded_at}
use Rattle.paper.specs.Refusals.{refusal_6, one_unclear, bad_requests, bad_waiting, one_used, refusal_7, late_request, late_job, overdue, refusal_8}
use Rattle.paper.specs.Refusals.{overdue_next, refusal_8_slot, overfull_at, refusal_9_work, wrong_tallies, refusal_9_tallies, wrong_promise}
use Rattle.paper.specs.Refusals.{wrong_promise_at, refusal_9_promise, refusal_10, refusal_11, refusal_12, refusal_13, too_late, refusal_14, refusal_15}
use Rattle.paper.specs.Calls.{first_given, power_on_verdict, power_on_call, TableOutcome, table_verdict, table_call, MovingOutcome, moving_verdict, moving_call}
use Rattle.paper.specs.Calls.{AdmissionOutcome, admission_verdict, admission_call, slot_verdict, slot_call, slot_numbers}
use Rattle.paper.specs.Fields.{File, Read, number, with_field, wrong_length, last_slot, wrong_order, field_verdict, read_from, refusal_20, read}
use Rattle.paper.specs.Fields.{boot_verdict, boot_call}
use Rattle.paper.specs.Listing.{digits, decimal, line, arrive, run_from, listing}

-- ---- what is asked about

-- a task as the paper writes it, (C, R, P)
abbrev pub of : ℕ → ℕ → ℕ → Task
of c r p = record { work = c; deadline = r; period = p }

-- "M is (2,3,5), (2,8,10)"
abbrev pub M : List Task
M = of 2 3 5 ∷ of 2 8 10 ∷ []

-- what the vectors hold when they are lent
abbrev pub lent : List ℕ
lent = 7 ∷ 7 ∷ 7 ∷ 7 ∷ 7 ∷ []

-- a request, done or with n left, and a job
abbrev pub done : Request
done = record { work = Done }

abbrev pub left : ℕ → Request
left n = record { work = Left n }

abbrev pub job : (left promise : ℕ) → Job
job l p = record { left = l; promise = record { 0 = p } }

-- a made-up state: now, the requests, the jobs of which the first n are said to wait, A and I; the other places are done or zero
abbrev pub state_from : (now : ℕ) → List Request → List Job → (n given idle : ℕ) → State
state_from now rs js n a i = record {
  now = record { 0 = now };
  requests = rs ++ replicate (16 - length rs) done;
  jobs = js ++ replicate (8 - length js) (job 0 0);
  waiting = n;
  given = a;
  idle = i;
}

-- one whose jobs all wait
abbrev pub state : (now : ℕ) → List Request → List Job → (given idle : ℕ) → State
state now rs js a i = state_from now rs js (length js) a i

-- the bytes of a text of plain letters
unfoldable pub text : S.String → List ℕ
text S.[] = []
text (S.◌∷◌ c cs) = code c ∷ text cs

-- a run: slots, and arrivals with no latest finish, by the calls
pub data Event : Type 0 where
  slots : ℕ → Event
  arrival : ℕ → Event

unfoldable pub run_on : List Task → ℕ → State → State
run_on ts zero s = s
run_on ts (suc n) s = run_on ts n (slot_call (table_of ts) s).state

unfoldable pub play : List Task → List Event → State → State
play ts [] s = s
play ts (slots n ∷ es) s = play ts es (run_on ts n s)
play ts (arrival w ∷ es) s = play ts es (admission_call (table_of ts) s w NoLatest lent lent lent).answer.state

-- the state after these events from power-on
unfoldable pub state_at : List Task → List Event → State
state_at ts es = play ts es (power_on_call (table_of ts)).state

-- ---- a question, and what the paper says: numbers in the order in which the paper names them

pub data Asked : Type 0 where
  -- power-on: number and place; the state
  powers_on : List Task → (answer : List ℕ) → State → Asked
  -- the table check, lent two vectors: number, place, W, places and F; the vectors to their end
  table_lent : List Task → (k d : List ℕ) → (answer k' d' : List ℕ) → Asked
  -- the moving vectors of a state, lent three: number, place and places; the vectors to their end
  moving_lent : List Task → State → (k d y : List ℕ) → (answer k' d' y' : List ℕ) → Asked
  -- an admission, lent three vectors: number, place and promise; the state; the vectors to their end
  admission_lent : List Task → State → (work : ℕ) → Latest → (k d y : List ℕ) → (answer : List ℕ) → State → (k' d' y' : List ℕ) → Asked
  -- only its number, place and promise
  admission : List Task → State → (work : ℕ) → Latest → (answer : List ℕ) → Asked
  -- a slot: number, place, ready word, and who (0 nobody, 1 to 16 a task, 17 with its promise a job), by both of its equations; the state
  slot : List Task → State → (answer : List ℕ) → State → Asked
  -- only number, ready word and who, of as many slots as there are rows
  run : List Task → State → (rows : List (List ℕ)) → Asked
  -- the fields of some bytes: number and place; what is read, each field as its tag and its numbers
  fields : (bytes answer : List ℕ) → (rows : List (List ℕ)) → Asked
  -- the boot call of some bytes: number, place and W
  boot : (bytes answer : List ℕ) → Asked
  -- the run program's listing of some bytes
  listed : (bytes lines : List ℕ) → Asked

-- with five places lent in each vector
abbrev pub table : List Task → (answer k d : List ℕ) → Asked
table ts a k d = table_lent ts lent lent a k d

abbrev pub moving : List Task → State → (answer k d y : List ℕ) → Asked
moving ts s a k d y = moving_lent ts s lent lent lent a k d y

-- ---- answers in numbers

-- "Each request is done or has a stated amount left": 0 for done, and 1 + n for n left
abbrev pub work_number : Work → ℕ
work_number Done = 0
work_number (Left n) = suc n

unfoldable pub request_numbers : List Request → List ℕ
request_numbers [] = []
request_numbers (r ∷ rs) = work_number r.work ∷ request_numbers rs

unfoldable pub job_numbers : List Job → List ℕ
job_numbers [] = []
job_numbers (j ∷ js) = j.left ∷ j.promise.0 ∷ job_numbers js

-- a state, every place of it
unfoldable pub state_rows : State → List (List ℕ)
state_rows s = (s.now.0 ∷ s.waiting ∷ s.given ∷ s.idle ∷ []) ∷ request_numbers s.requests ∷ job_numbers s.jobs ∷ []

abbrev pub power_on_rows : PowerOnAnswer → List (List ℕ)
power_on_rows o = (o.number ∷ o.place ∷ []) ∷ state_rows o.state

abbrev pub table_rows : TableOutcome → List (List ℕ)
table_rows o =
    (o.answer.number ∷ o.answer.place ∷ o.answer.window ∷ o.answer.places ∷ o.answer.idle ∷ []) ∷ o.k ∷ o.d ∷ []

abbrev pub moving_rows : MovingOutcome → List (List ℕ)
moving_rows o = (o.answer.number ∷ o.answer.place ∷ o.answer.places ∷ []) ∷ o.k ∷ o.d ∷ o.y ∷ []

abbrev pub admission_row : AdmissionOutcome → List ℕ
admission_row o = o.answer.number ∷ o.answer.place ∷ o.answer.promise.0 ∷ []

abbrev pub admission_rows : AdmissionOutcome → List (List ℕ)
admission_rows o = admission_row o ∷ o.k ∷ o.d ∷ o.y ∷ state_rows o.answer.state

abbrev pub slot_rows : SlotAnswer → List (List ℕ)
slot_rows o = (o.number ∷ o.place ∷ o.ready ∷ numbers_of o.who) ∷ state_rows o.state

-- what the next n slots answer
unfoldable pub trace : List Task → ℕ → State → List (List ℕ)
trace ts zero s = []
trace ts (suc n) s =
    ((slot_call (table_of ts) s).number ∷ (slot_call (table_of ts) s).ready ∷ numbers_of (slot_call (table_of ts) s).who)
    ∷ trace ts n (slot_call (table_of ts) s).state

unfoldable pub task_rows : List Task → List (List ℕ)
task_rows [] = []
task_rows (t ∷ ts) = (1 ∷ t.work ∷ t.deadline ∷ t.period ∷ []) ∷ task_rows ts

abbrev pub latest_numbers : Latest → List ℕ
latest_numbers NoLatest = []
latest_numbers (By s) = s.0 ∷ []

unfoldable pub arrival_rows : List Arrival → List (List ℕ)
arrival_rows [] = []
arrival_rows (a ∷ more) = (2 ∷ a.slot.0 ∷ a.work ∷ latest_numbers a.latest) ∷ arrival_rows more

abbrev pub end_rows : Option ℕ → List (List ℕ)
end_rows None = []
end_rows (Some n) = (3 ∷ n ∷ []) ∷ []

abbrev pub file_rows : File → List (List ℕ)
file_rows f = task_rows f.tasks ++ (arrival_rows f.arrivals ++ end_rows f.slots)

abbrev pub read_rows : Read → List (List ℕ)
read_rows r = (r.verdict.number ∷ r.verdict.place ∷ []) ∷ file_rows r.file

abbrev pub boot_row : BootAnswer → List ℕ
boot_row o = o.number ∷ o.place ∷ o.window ∷ []

-- ---- whether what is said is so

unfoldable pub same : List ℕ → List ℕ → Bool
same [] [] = true
same [] (y ∷ ys) = false
same (x ∷ xs) [] = false
same (x ∷ xs) (y ∷ ys) = eqb x y && same xs ys

unfoldable pub all_same : List (List ℕ) → List (List ℕ) → Bool
all_same [] [] = true
all_same [] (y ∷ ys) = false
all_same (x ∷ xs) [] = false
all_same (x ∷ xs) (y ∷ ys) = same x y && all_same xs ys

-- To unfold `holds` is to unfold all that its line names: every definition that a call is made of.
unfoldable pub holds : Asked → Bool
unfolding
    dues present deadline_at present_due later_due due table_due works gcd_in gcd lcm window_from window
    request_lefts jobs_of view_of requests_of job_records state_of tasks_of table_of
    spare is_deadline places_in K sum vec above_static D F left_above later_above above_moving places_up_to here times_from times Y_from Y
    reach promise_later promise_in promise job_lefts
    first runs after onward serve enter tally doing next said said_numbers ready_word
    first_of refusal_1 breaks first_breaking refusal_2 refusal_3 refusal_4 one_shorter refusal_5 overloaded_at refusal_6
    one_unclear bad_requests bad_waiting one_used refusal_7 late_request late_job overdue refusal_8 overdue_next refusal_8_slot
    overfull_at refusal_9_work wrong_tallies refusal_9_tallies wrong_promise wrong_promise_at refusal_9_promise
    refusal_10 refusal_11 refusal_12 refusal_13 too_late refusal_14 refusal_15
    first_given power_on_verdict power_on_call table_verdict table_call moving_verdict moving_call
    admission_verdict admission_call slot_verdict slot_call slot_numbers
    number with_field wrong_length last_slot wrong_order field_verdict read_from refusal_20 read boot_verdict boot_call
    digits decimal line arrive run_from listing
    text run_on play state_at request_numbers job_numbers state_rows trace task_rows arrival_rows same all_same
holds (powers_on ts a s) = all_same (power_on_rows (power_on_call (table_of ts))) (a ∷ state_rows s)
holds (table_lent ts k d a k' d') = all_same (table_rows (table_call (table_of ts) k d)) (a ∷ k' ∷ d' ∷ [])
holds (moving_lent ts s k d y a k' d' y') = all_same (moving_rows (moving_call (table_of ts) s k d y)) (a ∷ k' ∷ d' ∷ y' ∷ [])
holds (admission_lent ts s w latest k d y a s' k' d' y') =
    all_same (admission_rows (admission_call (table_of ts) s w latest k d y)) (a ∷ k' ∷ d' ∷ y' ∷ state_rows s')
holds (admission ts s w latest a) = same (admission_row (admission_call (table_of ts) s w latest lent lent lent)) a
holds (slot ts s a s') = all_same (slot_rows (slot_call (table_of ts) s)) (a ∷ state_rows s') && same (slot_numbers (table_of ts) s) (drop 3 a)
holds (run ts s rows) = all_same (trace ts (length rows) s) rows
holds (fields bytes a rows) = all_same (read_rows (read bytes)) (a ∷ rows)
holds (boot bytes a) = same (boot_row (boot_call bytes)) a
holds (listed bytes lines) = same (listing bytes) lines

unfoldable pub all_hold : List Asked → Bool
unfolding holds
all_hold [] = true
all_hold (a ∷ more) = holds a && all_hold more
