-- The state that a call is measured at, and what the measured calls tell of it: power-on for the table of a file, then some
-- admissions of one work each, then some slots, each from the state and the vectors that the one before it left.
use Rattle.std.specs.Prelude.{ℕ, zero, suc, List}
use Rattle.paper.specs.declared.Table.{Table}
use Rattle.paper.specs.declared.State.{State}
use Rattle.paper.specs.declared.Latest.TheVariants.{None as NoLatest}
use Rattle.paper.specs.Calls.{TableOutcome, MovingOutcome, AdmissionOutcome, power_on_call, table_call, moving_call, admission_call, slot_call}
use Rattle.paper.specs.Fields.{fields_answer}

-- a state, and the lent vectors as they are then
pub record Standing : Type 0 where
  pub state : State
  pub k : List ℕ
  pub d : List ℕ
  pub y : List ℕ

-- a job of this work asks, with no latest finish
abbrev pub asks : Table → ℕ → Standing → AdmissionOutcome
asks t work a = admission_call t a.state work NoLatest a.k a.d a.y

-- what an admission leaves, be it accepted or refused
abbrev pub leaves : AdmissionOutcome → Standing
leaves o = record { state = o.answer.state; k = o.k; d = o.d; y = o.y }

-- n admissions of this work, one after another
unfoldable pub admitted : ℕ → Table → ℕ → Standing → Standing
admitted zero t work a = a
admitted (suc n) t work a = admitted n t work (leaves (asks t work a))

-- n slots, one after another
unfoldable pub ran : ℕ → Table → State → State
ran zero t s = s
ran (suc n) t s = ran n t (slot_call t s).state

-- the slots touch no vector
abbrev pub then_ran : ℕ → Table → Standing → Standing
then_ran n t a = record { state = ran n t a.state; k = a.k; d = a.d; y = a.y }

-- the table that the bytes say; that of no task, if they are refused
abbrev pub table_read : List ℕ → Table
table_read bs = (fields_answer bs).table

-- power-on, the jobs, the slots
unfoldable pub stands : Table → ℕ → ℕ → ℕ → List ℕ → List ℕ → List ℕ → Standing
stands t jobs work slots k d y =
    then_ran slots t (admitted jobs t work (record { state = (power_on_call t).state; k = k; d = d; y = y }))

-- ---- what a measured function gives, and the vectors that it leaves

pub record TableTold : Type 0 where
  pub told : ℕ
  pub k : List ℕ
  pub d : List ℕ

pub record Told : Type 0 where
  pub told : ℕ
  pub k : List ℕ
  pub d : List ℕ
  pub y : List ℕ

-- F
abbrev pub idle_of : TableOutcome → TableTold
idle_of o = record { told = o.answer.idle; k = o.k; d = o.d }

-- I
abbrev pub tally_of : Standing → Told
tally_of a = record { told = a.state.idle; k = a.k; d = a.d; y = a.y }

-- the places of K
abbrev pub places_of : MovingOutcome → Told
places_of o = record { told = o.answer.places; k = o.k; d = o.d; y = o.y }

-- the promise, 0 if it is refused
abbrev pub promised : AdmissionOutcome → Told
promised o = record { told = o.answer.promise.0; k = o.k; d = o.d; y = o.y }

-- the moving vectors of the state
abbrev pub moves : Table → Standing → MovingOutcome
moves t a = moving_call t a.state a.k a.d a.y

-- ---- the measured functions

unfoldable pub bench_table : List ℕ → List ℕ → List ℕ → TableTold
bench_table bs k d = idle_of (table_call (table_read bs) k d)

unfoldable pub bench_stand : List ℕ → ℕ → ℕ → ℕ → List ℕ → List ℕ → List ℕ → Told
bench_stand bs jobs work slots k d y = tally_of (stands (table_read bs) jobs work slots k d y)

unfoldable pub bench_moving : List ℕ → ℕ → ℕ → ℕ → List ℕ → List ℕ → List ℕ → Told
bench_moving bs jobs work slots k d y = places_of (moves (table_read bs) (stands (table_read bs) jobs work slots k d y))

unfoldable pub bench_admission : List ℕ → ℕ → ℕ → ℕ → ℕ → List ℕ → List ℕ → List ℕ → Told
bench_admission bs jobs work slots more k d y =
    promised (asks (table_read bs) more (stands (table_read bs) jobs work slots k d y))
