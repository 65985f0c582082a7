-- What the reader keeps of a file, and what is told of one that is read.
use Rattle.std.specs.Prelude.{ℕ, ◌≡◌, ◌≤◌, Option, Some, None, Result, Ok, Err, List, [], ◌∷◌}
use Rattle.paper.specs.declared.Arrival.{Arrival}
use Rattle.paper.specs.declared.Slot.{Slot}
use Rattle.paper.specs.declared.Refusal.{Refusal}
use Rattle.paper.specs.View.{table_of}
use Rattle.paper.specs.Refusals.{passed}
use Rattle.paper.specs.Refused.{verdict_of}
use Rattle.paper.specs.Fields.{File, Read, refused}
use Rattle.fields.specs.declared.Seen.{Seen}
use Rattle.fields.specs.declared.Contents.{Contents}

-- the slot of the last arrival, if there is one
unfoldable pub last_of : Option Slot → List Arrival → Option Slot
last_of s [] = s
last_of s (a ∷ more) = last_of (Some a.slot) more

-- what is kept of a file to judge its next field and to answer
abbrev pub seen_of : File → Seen
seen_of f = record { table = table_of f.tasks; last = last_of None f.arrivals; slots = f.slots }

-- what the reading of a file comes to: a refusal, or what is told of the file
abbrev pub Outcome : Read → Result Contents Refusal → Type 0
Outcome r (Ok c) = (r.verdict ≡ passed) × (c.table ≡ table_of r.file.tasks) × (Some c.slots ≡ r.file.slots) × (c.table.count ≤ 16)
Outcome r (Err e) = r ≡ refused (verdict_of e)
