-- The outcome of a call as the paper has it, of the answer and of what the call leaves: the last value of each lent vector or state, in the place
-- of its parameter, and nothing in the place of another. And its parts again, so that an equation of outcomes is one of answers and of what is left.
use Rattle.std.specs.Prelude.{ℕ, ◌≡◌, List}
use Rattle.paper.specs.declared.Table.{Table}
use Rattle.paper.specs.declared.State.{State}
use Rattle.paper.specs.declared.TableAnswer.{TableAnswer}
use Rattle.paper.specs.declared.MovingAnswer.{MovingAnswer}
use Rattle.paper.specs.declared.AdmissionAnswer.{AdmissionAnswer}
use Rattle.paper.specs.declared.SlotAnswer.{SlotAnswer}
use Rattle.paper.specs.Rule.{numbers_of}
use Rattle.paper.specs.Calls.{TableOutcome, MovingOutcome, AdmissionOutcome, slot_call, slot_numbers, ReadyBits}
use Rattle.board.specs.declared.Ticked.{Ticked}
use Rattle.benched.specs.Stand.{TableTold, Told}

-- a parameter that is not lent to be changed
abbrev pub Nothing : Type 0
Nothing = Unit {0}

-- ---- vectors k and d after one parameter; k, d and y after two, four and five

abbrev pub Two : Type 0
Two = Nothing × (List ℕ × (List ℕ × Nothing))

abbrev pub Three : Type 0
Three = List ℕ × (List ℕ × (List ℕ × Nothing))

abbrev pub After2 : Type 0
After2 = Nothing × (Nothing × Three)

abbrev pub After4 : Type 0
After4 = Nothing × (Nothing × After2)

abbrev pub After5 : Type 0
After5 = Nothing × After4

abbrev pub table_whole : TableAnswer → Two → TableOutcome
table_whole r ws = record { answer = r; k = ws.1.0; d = ws.1.1.0 }

abbrev pub table_parts : TableOutcome → TableAnswer × Two
table_parts o = (o.answer, (tt, (o.k, (o.d, tt))))

abbrev pub moving_whole : MovingAnswer → After2 → MovingOutcome
moving_whole r ws = record { answer = r; k = ws.1.1.0; d = ws.1.1.1.0; y = ws.1.1.1.1.0 }

abbrev pub moving_parts : MovingOutcome → MovingAnswer × After2
moving_parts o = (o.answer, (tt, (tt, (o.k, (o.d, (o.y, tt))))))

abbrev pub admission_whole : AdmissionAnswer → After4 → AdmissionOutcome
admission_whole r ws = record { answer = r; k = ws.1.1.1.1.0; d = ws.1.1.1.1.1.0; y = ws.1.1.1.1.1.1.0 }

abbrev pub admission_parts : AdmissionOutcome → AdmissionAnswer × After4
admission_parts o = (o.answer, (tt, (tt, (tt, (tt, (o.k, (o.d, (o.y, tt))))))))

-- ---- a slot: the answer, the paper's number and values of what it did, and the ready word bit by bit

abbrev pub SlotSays : SlotAnswer → Table → State → Type 0
SlotSays a t s = (a ≡ slot_call t s) × ((numbers_of a.who ≡ slot_numbers t s) × ReadyBits a.number a.ready a.state)

-- a tick says what a slot says, and leaves the state

abbrev pub tick_whole : Ticked → Nothing × (State × Nothing) → SlotAnswer
tick_whole r ws = record { number = r.number; place = r.place; who = r.who; ready = r.ready; state = ws.1.0 }

abbrev pub tick_parts : SlotAnswer → Ticked × (Nothing × (State × Nothing))
tick_parts a = (record { number = a.number; place = a.place; who = a.who; ready = a.ready }, (tt, (a.state, tt)))

-- ---- a measured call tells one number

abbrev pub table_told : ℕ → Two → TableTold
table_told r ws = record { told = r; k = ws.1.0; d = ws.1.1.0 }

abbrev pub table_told_parts : TableTold → ℕ × Two
table_told_parts o = (o.told, (tt, (o.k, (o.d, tt))))

abbrev pub told_4 : ℕ → After4 → Told
told_4 r ws = record { told = r; k = ws.1.1.1.1.0; d = ws.1.1.1.1.1.0; y = ws.1.1.1.1.1.1.0 }

abbrev pub told_4_parts : Told → ℕ × After4
told_4_parts o = (o.told, (tt, (tt, (tt, (tt, (o.k, (o.d, (o.y, tt))))))))

abbrev pub told_5 : ℕ → After5 → Told
told_5 r ws = told_4 r ws.1

abbrev pub told_5_parts : Told → ℕ × After5
told_5_parts o = (o.told, (tt, (told_4_parts o).1))
