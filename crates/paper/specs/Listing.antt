-- "The run program": its listing, byte by byte, of the bytes that it reads.
-- The arrivals and slots of a run are the calls' own; each admission is lent vectors of 1,024 places.
use Rattle.std.specs.Prelude.{ℕ, zero, suc, ◌+◌, ◌/◌, ◌%◌, cond, List, [], ◌∷◌, ◌++◌, ltb, eqb, replicate}
use Rattle.paper.specs.declared.Table.{Table}
use Rattle.paper.specs.declared.State.{State}
use Rattle.paper.specs.declared.Who.{Who}
use Rattle.paper.specs.declared.Who.TheVariants.{Idle, Task as TaskOf, Job as JobOf}
use Rattle.paper.specs.declared.Verdict.{Verdict}
use Rattle.paper.specs.declared.Arrival.{Arrival}
use Rattle.paper.specs.declared.AdmissionAnswer.{AdmissionAnswer}
use Rattle.paper.specs.declared.SlotAnswer.{SlotAnswer}
use Rattle.paper.specs.Calls.{accepted, power_on_call, admission_call, slot_call}
use Rattle.paper.specs.Fields.{slots_of, read, table_in, boot_verdict}

-- ---- numbers and lines, in bytes

-- at most n digits of m, in front of ds
unfoldable pub digits : ℕ → ℕ → List ℕ → List ℕ
digits zero m ds = ds
digits (suc n) m ds = cond (ltb m 10) ((48 + m) ∷ ds) (digits n (m / 10) ((48 + m % 10) ∷ ds))  -- 48 is "0"

unfoldable pub decimal : ℕ → List ℕ
decimal m = digits (suc m) m []

-- words with a blank between them, and a line feed after the last
unfoldable pub line : List (List ℕ) → List ℕ
line [] = 10 ∷ []  -- "\n"
line (w ∷ []) = w ++ (10 ∷ [])
line (w ∷ u ∷ ws) = w ++ (32 ∷ line (u ∷ ws))  -- " "

-- "First line `slot who`."
abbrev pub first_line : List ℕ
first_line = 115 ∷ 108 ∷ 111 ∷ 116 ∷ 32 ∷ 119 ∷ 104 ∷ 111 ∷ 10 ∷ []  -- "slot who\n"

-- "`a slot work promise`, or `r slot work number`"
abbrev pub arrival_line : Arrival → AdmissionAnswer → List ℕ
arrival_line a r =
    cond (eqb r.number 0)
    (line ((97 ∷ []) ∷ decimal a.slot.0 ∷ decimal a.work ∷ decimal r.promise.0 ∷ []))  -- "a"
    (line ((114 ∷ []) ∷ decimal a.slot.0 ∷ decimal a.work ∷ decimal r.number ∷ []))  -- "r"

-- "`Pj` task j, `Sp` the job of promise p, `-` idle"
abbrev pub who_word : Who → List ℕ
who_word Idle = 45 ∷ []  -- "-"
who_word (TaskOf j) = 80 ∷ decimal j  -- "P"
who_word (JobOf p) = 83 ∷ decimal p.0  -- "S"

-- "Then `slot who`"
abbrev pub slot_line : ℕ → SlotAnswer → List ℕ
slot_line now r = line (decimal now ∷ who_word r.who ∷ [])

-- "A bad file or table: `x number place` after the first line."
abbrev pub bad_line : Verdict → List ℕ
bad_line r = line ((120 ∷ []) ∷ decimal r.number ∷ decimal r.place ∷ [])  -- "x"

-- ---- "Before a slot its arrivals in file order"

abbrev pub lent : List ℕ
lent = replicate 1024 0

abbrev pub asked : Table → State → Arrival → AdmissionAnswer
asked t s a = (admission_call t s a.work a.latest lent lent lent).answer

-- what the arrivals of slot now print, the state after them, and the arrivals that are left
pub record Arrived : Type 0 where
  pub lines : List ℕ
  pub state : State
  pub rest : List Arrival

abbrev pub after : List ℕ → Arrived → Arrived
after l r = record { lines = l ++ r.lines; state = r.state; rest = r.rest }

unfoldable pub arrive : Table → ℕ → List Arrival → State → Arrived
arrive t now [] s = record { lines = []; state = s; rest = [] }
arrive t now (a ∷ more) s =
    cond (eqb a.slot.0 now) (after (arrival_line a (asked t s a)) (arrive t now more (asked t s a).state))
    (record { lines = []; state = s; rest = a ∷ more })

-- ---- the run: n slots from slot now on; "arrivals at or after the run's end are not shown"

unfoldable pub run_from : Table → ℕ → ℕ → List Arrival → State → List ℕ
run_from t zero now more s = []
run_from t (suc n) now more s =
    (arrive t now more s).lines
    ++ (slot_line now (slot_call t (arrive t now more s).state)
    ++ run_from t n (suc now) (arrive t now more s).rest (slot_call t (arrive t now more s).state).state)

unfoldable pub listing : List ℕ → List ℕ
listing bs =
    first_line
    ++ accepted (boot_verdict bs)
    (run_from (table_in bs) (slots_of (read bs).file.slots) 0 (read bs).file.arrivals (power_on_call (table_in bs)).state)
    (bad_line (boot_verdict bs))
