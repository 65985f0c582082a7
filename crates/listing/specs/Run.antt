-- A run, line by line, and the buffer that its lines are written into: what `begin`, `turn` and `run_part` leave of both.
-- A run can be stopped after any line and taken up there; `Whole.antt` shows that its lines together are the paper's listing.
use Rattle.std.specs.Prelude.{ℕ, zero, suc, ◌+◌, ◌-◌, Bool, cond, ◌&&◌, Option, Some, None, List, [], ◌++◌, leb, ltb, eqb, length, take}
use Rattle.paper.specs.declared.Arrival.{Arrival}
use Rattle.paper.specs.declared.FieldsAnswer.{FieldsAnswer}
use Rattle.paper.specs.Calls.{accepted, power_on_call, slot_call}
use Rattle.paper.specs.Fields.{read, table_in, boot_verdict, slots_of, fields_answer, arrival_at}
use Rattle.paper.specs.Listing.{first_line, bad_line, arrival_line, slot_line, asked}
use Rattle.paper.specs.declared.Next.{Next}
use Rattle.fields.specs.Arrivals.{arrivals_from}
use Rattle.listing.specs.declared.Running.{Running}
use Rattle.decimal.specs.Written.{written}

-- what a call leaves: the run, and the buffer to its end
pub record Outcome : Type 0 where
  pub running : Running
  pub out : List ℕ

-- the bytes that stand in the buffer
abbrev pub shown : Outcome → List ℕ
shown o = take o.running.written o.out

-- a run with these bytes written after those that stand in the buffer
abbrev pub with_bytes : List ℕ → Running → List ℕ → Outcome
with_bytes bytes r out = record {
  running = record { table = r.table; state = r.state; now = r.now; end = r.end; at = r.at; written = r.written + length bytes };
  out = written out r.written bytes;
}

-- ---- the beginning

-- a run of what was read, from power-on
abbrev pub from_power_on : FieldsAnswer → Running
from_power_on f = record { table = f.table; state = (power_on_call f.table).state; now = 0; end = f.slots; at = f.arrivals; written = 0 }

-- the run of a file, from power-on; a bad file or table has no slots to run
abbrev pub run_of : List ℕ → Running
run_of bs = record {
  table = table_in bs;
  state = (power_on_call (table_in bs)).state;
  now = 0;
  end = accepted (boot_verdict bs) (slots_of (read bs).file.slots) 0;
  at = (fields_answer bs).arrivals;
  written = 0;
}

-- "First line `slot who`." "A bad file or table: `x number place` after the first line."
unfoldable pub begun : List ℕ → List ℕ → Outcome
begun bs out = with_bytes (first_line ++ accepted (boot_verdict bs) [] (bad_line (boot_verdict bs))) (run_of bs) out

-- ---- one line

-- the arrival a asks, and the byte after it is next
abbrev pub arrival_turn : Running → Arrival → ℕ → List ℕ → Outcome
arrival_turn r a next out =
    with_bytes (arrival_line a (asked r.table r.state a)) (record {
      table = r.table;
      state = (asked r.table r.state a).state;
      now = r.now;
      end = r.end;
      at = next;
      written = r.written;
    })
    out

abbrev pub slot_turn : Running → List ℕ → Outcome
slot_turn r out =
    with_bytes (slot_line r.now (slot_call r.table r.state)) (record {
      table = r.table;
      state = (slot_call r.table r.state).state;
      now = r.now + 1;
      end = r.end;
      at = r.at;
      written = r.written;
    })
    out

-- "Before a slot its arrivals in file order": the next arrival's line if it is for this slot, else the slot's line
abbrev pub turn_by : Option Next → Running → List ℕ → Outcome
turn_by (Some n) r out = cond (eqb n.arrival.slot.0 r.now) (arrival_turn r n.arrival n.after out) (slot_turn r out)
turn_by None r out = slot_turn r out

unfoldable pub turned : List ℕ → Running → List ℕ → Outcome
turned bs r out = turn_by (arrival_at bs r.at) r out

-- ---- a part: lines while the run goes on and 80 bytes are free

abbrev pub goes_on : Outcome → Bool
goes_on o = ltb o.running.now o.running.end && leb (o.running.written + 80) (length o.out)

-- at most n lines
unfoldable pub lines_up_to : ℕ → List ℕ → Outcome → Outcome
lines_up_to zero bs o = o
lines_up_to (suc n) bs o = cond (goes_on o) (lines_up_to n bs (turned bs o.running o.out)) o

-- how many lines are left at most: one a slot, and one an arrival
unfoldable pub turns : List ℕ → Running → ℕ
turns bs r = (r.end - r.now) + length (arrivals_from r.at bs)

unfoldable pub lines : List ℕ → Outcome → Outcome
lines bs o = lines_up_to (turns bs o.running) bs o

-- the run with an empty buffer
abbrev pub afresh : Running → Running
afresh r = record { table = r.table; state = r.state; now = r.now; end = r.end; at = r.at; written = 0 }

unfoldable pub part : List ℕ → Running → List ℕ → Outcome
part bs r out = lines bs (record { running = afresh r; out = out })
