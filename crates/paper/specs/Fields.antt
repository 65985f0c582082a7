-- "Tagged fields": what a string of bytes says, field by field, and its refusals 16 to 21 and 1.
-- "One-byte tag, two-byte length, both numbers and lengths low byte first." "Refusals, place = byte of the field, from 0."
use Rattle.std.specs.Prelude.{ℕ, zero, suc, ◌+◌, ◌*◌, Bool, true, false, not, cond, ◌&&◌, ◌||◌, List, [], ◌∷◌, ◌++◌, leb, ltb, eqb, length, take, drop, get_or}
use Rattle.std.specs.Prelude.{Option, None, Some}
use Rattle.paper.specs.declared.Task.{Task}
use Rattle.paper.specs.declared.Table.{Table}
use Rattle.paper.specs.declared.Arrival.{Arrival}
use Rattle.paper.specs.declared.Latest.TheVariants.{None as NoLatest, By}
use Rattle.paper.specs.declared.Verdict.{Verdict}
use Rattle.paper.specs.declared.FieldsAnswer.{FieldsAnswer}
use Rattle.paper.specs.declared.Next.{Next}
use Rattle.paper.specs.declared.BootAnswer.{BootAnswer}
use Rattle.paper.specs.Window.{window}
use Rattle.paper.specs.View.{table_of, tasks_of}
use Rattle.paper.specs.Refusals.{passed, at, refusal_4, refusal_6}
use Rattle.paper.specs.Calls.{first_given, accepted, one_to_three}

-- ---- a field

-- low byte first
unfoldable pub number : List ℕ → ℕ
number [] = 0
number (b ∷ bs) = b + 256 * number bs

-- the number of n bytes, from byte p of these on
abbrev pub number_at : ℕ → ℕ → List ℕ → ℕ
number_at p n bs = number (take n (drop p bs))

-- of the bytes from a field's first one on: its tag, its length, and all its bytes
abbrev pub tag : List ℕ → ℕ
tag bs = get_or bs 0 0

abbrev pub body_length : List ℕ → ℕ
body_length bs = number_at 1 2 bs

abbrev pub field_length : List ℕ → ℕ
field_length bs = 3 + body_length bs

-- "1, length 6: C, R, P, two bytes each."
abbrev pub task_in : List ℕ → Task
task_in bs = record { work = number_at 3 2 bs; deadline = number_at 5 2 bs; period = number_at 7 2 bs }

-- "2, length 6 or 10: slot (4), work (2), latest finish (4, absent is none)."
abbrev pub arrival_in : List ℕ → Arrival
arrival_in bs = record {
  slot = record { 0 = number_at 3 4 bs };
  work = number_at 7 2 bs;
  latest = cond (eqb (body_length bs) 10) (By (record { 0 = number_at 9 4 bs })) NoLatest;
}

-- "3, length 4: slots to run, at most 100,000."
abbrev pub slots_in : List ℕ → ℕ
slots_in bs = number_at 3 4 bs

-- ---- what is read so far: "Tasks, then arrivals with slots not falling, then one tag 3, then the end."

pub record File : Type 0 where
  pub tasks : List Task
  pub arrivals : List Arrival
  pub slots : Option ℕ

abbrev pub empty : File
empty = record { tasks = []; arrivals = []; slots = None }

-- with the field that these bytes begin with
unfoldable pub with_field : File → List ℕ → File
with_field f bs =
    cond (eqb (tag bs) 1) (record { tasks = f.tasks ++ (task_in bs ∷ []); arrivals = f.arrivals; slots = f.slots })
    (cond (eqb (tag bs) 2) (record { tasks = f.tasks; arrivals = f.arrivals ++ (arrival_in bs ∷ []); slots = f.slots })
    (record { tasks = f.tasks; arrivals = f.arrivals; slots = Some (slots_in bs) }))

abbrev pub slots_of : Option ℕ → ℕ
slots_of None = 0
slots_of (Some n) = n

abbrev pub ended : Option ℕ → Bool
ended None = false
ended (Some n) = true

-- ---- the refusals of a field, at its byte p, in their order

unfoldable pub wrong_length : ℕ → ℕ → Bool
wrong_length t n =
    cond (eqb t 1) (not (eqb n 6)) (cond (eqb t 2) (not (eqb n 6) && not (eqb n 10)) (not (eqb n 4)))

-- the slot of the last arrival so far, 0 before the first
unfoldable pub last_slot : ℕ → List Arrival → ℕ
last_slot s [] = s
last_slot s (a ∷ more) = last_slot a.slot.0 more

-- "19 wrong order, an arrival or tag 3 before any task"
unfoldable pub wrong_order : File → List ℕ → Bool
wrong_order f bs =
    cond (eqb (tag bs) 1) (ltb 0 (length f.arrivals))
    (eqb (length f.tasks) 0 || (eqb (tag bs) 2 && ltb (arrival_in bs).slot.0 (last_slot 0 f.arrivals)))

abbrev pub placed : Bool → ℕ → ℕ → Verdict
placed b n p = at (cond b (Some p) None) n

unfoldable pub field_verdict : File → ℕ → List ℕ → Verdict
field_verdict f p bs =
    first_given
    ( -- "A byte after tag 3 is 19 before anything else is asked of it."
    placed (ended f.slots) 19 p
    -- "16 one or two bytes left; 17 unknown tag; 18 wrong length; 16 body cut"
    ∷ placed (ltb (length bs) 3) 16 p
    ∷ placed (eqb (tag bs) 0 || ltb 3 (tag bs)) 17 p
    ∷ placed (wrong_length (tag bs) (body_length bs)) 18 p
    ∷ placed (ltb (length bs) (field_length bs)) 16 p
    -- "19 wrong order, ...; 1 seventeenth task; 21 run too long"
    ∷ placed (wrong_order f bs) 19 p
    ∷ placed (eqb (tag bs) 1 && leb 16 (length f.tasks)) 1 p
    ∷ placed (eqb (tag bs) 3 && ltb 100000 (slots_in bs)) 21 p
    ∷ [])

-- ---- all fields

pub record Read : Type 0 where
  pub verdict : Verdict
  pub file : File

abbrev pub refused : Verdict → Read
refused r = record { verdict = r; file = empty }

-- "or no byte left and no tag 3 yet [input length]"
abbrev pub at_end : File → ℕ → Read
at_end f p = cond (ended f.slots) (record { verdict = passed; file = f }) (refused (record { number = 19; place = p }))

-- at most n fields, from byte p of the input on
unfoldable pub read_from : ℕ → File → ℕ → List ℕ → Read
read_from zero f p bs = at_end f p
read_from (suc n) f p [] = at_end f p
read_from (suc n) f p (b ∷ bs) =
    accepted (field_verdict f p (b ∷ bs))
    (read_from n (with_field f (b ∷ bs)) (p + field_length (b ∷ bs)) (drop (field_length (b ∷ bs)) (b ∷ bs)))
    (refused (field_verdict f p (b ∷ bs)))

-- "20 input over 4,096 bytes [0]; then field by field"
unfoldable pub refusal_20 : List ℕ → Verdict
refusal_20 bs = placed (ltb 4096 (length bs)) 20 0

unfoldable pub read : List ℕ → Read
read bs = accepted (refusal_20 bs) (read_from (length bs) empty 0 bs) (refused (refusal_20 bs))

-- ---- "reading tagged fields": what the reader answers of the whole input, and what it answers of a byte at which an arrival may stand

-- the verdict, the table, the byte at which the arrivals begin, "slots to run": a task is nine bytes, and "tasks, then arrivals"
abbrev pub answer_by : Read → FieldsAnswer
answer_by r = record {
  number = r.verdict.number;
  place = r.verdict.place;
  table = table_of r.file.tasks;
  arrivals = 9 * length r.file.tasks;
  slots = slots_of r.file.slots;
}

unfoldable pub fields_answer : List ℕ → FieldsAnswer
fields_answer bs = answer_by (read bs)

-- "2, length 6 or 10": whether an arrival stands whole at the front of these bytes
unfoldable pub is_arrival : List ℕ → Bool
is_arrival bs = eqb (tag bs) 2 && (not (wrong_length 2 (body_length bs)) && leb (field_length bs) (length bs))

abbrev pub next_in : ℕ → List ℕ → Option Next
next_in p bs = cond (is_arrival bs) (Some (record { arrival = arrival_in bs; after = p + field_length bs })) None

-- what stands at byte p
unfoldable pub arrival_at : List ℕ → ℕ → Option Next
arrival_at bs p = next_in p (drop p bs)

-- ---- the boot call: "it gets the number, the place and W back, from the field checks and then 1 to 4 and 6 of the table"

abbrev pub table_in : List ℕ → Table
table_in bs = table_of (read bs).file.tasks

unfoldable pub boot_verdict : List ℕ → Verdict
boot_verdict bs =
    first_given ((read bs).verdict ∷ (one_to_three (table_in bs) ++ (refusal_4 (tasks_of (table_in bs)) ∷ refusal_6 (tasks_of (table_in bs)) ∷ [])))

abbrev pub boot_by : Verdict → List Task → BootAnswer
boot_by r ts = record { number = r.number; place = r.place; window = accepted r (window ts) 0 }

unfoldable pub boot_call : List ℕ → BootAnswer
boot_call bs = boot_by (boot_verdict bs) (tasks_of (table_in bs))
