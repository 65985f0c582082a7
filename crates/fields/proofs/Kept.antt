-- What is kept of a file is right after one more field.
use Rattle.std.specs.Prelude.{Option, Some, None, is_some, ltb}
use Rattle.std.proofs.Common.{◌≡◌, refl, sym, ap, ◌∙◌, ℕ, ◌+◌, ◌<◌, true, List, [], ◌∷◌, ◌++◌, length, arith, length-append}
use Rattle.std.specs.Array.{AllOfLen}
use Rattle.std.proofs.Math.ListN.{set, replicate, get_or}
use Rattle.std.proofs.lemmas.List.{ext_get_or, get_or-replicate}
use borrow.Author.Tests.{lt-ltb}
use Rattle.paper.specs.declared.Task.{Task}
use Rattle.paper.specs.declared.Table.{Table}
use Rattle.paper.specs.declared.Slot.{Slot}
use Rattle.paper.specs.declared.Arrival.{Arrival}
use Rattle.paper.specs.View.{no_task, table_of}
use Rattle.paper.specs.Fields.{File, tag, task_in, arrival_in, slots_in, with_field, last_slot}
use Rattle.theory.specs.Padded.{more_padded}
use Rattle.fields.specs.declared.Seen.{Seen}
use Rattle.fields.specs.Seen.{last_of, seen_of}

-- ---- a table by default

no_field : (t : Task) → (t.work ≡ 0) × ((t.deadline ≡ 0) × (t.period ≡ 0)) → t ≡ no_task
no_field t h = λ i. record { work = h.0 i; deadline = h.1.0 i; period = h.1.1 i }

abbrev pub IsEmpty : Table → Type 0
IsEmpty t = AllOfLen (λ x. (x.work ≡ 0) × ((x.deadline ≡ 0) × (x.period ≡ 0))) t.tasks 16 × (t.count ≡ 0)

-- it is that of no task
pub empty_table : (t : Table) → IsEmpty t → t ≡ table_of []
unfolding table_of
empty_table t h =
    let none : t.tasks ≡ replicate 16 no_task =
    ext_get_or no_task t.tasks (replicate 16 no_task) h.0.long
    (λ i l. no_field (get_or t.tasks i no_task) (h.0.at i no_task (rw h.0.long at l)) ∙ sym (get_or-replicate 16 i no_task no_task (rw h.0.long at l))) in
    λ i. record { tasks = none i; count = h.1 i }

-- ---- how many tasks

pub count_is : {s : Seen} (f : File) → s ≡ seen_of f → s.table.count ≡ length f.tasks
unfolding table_of
count_is f e = ap (λ (x : Seen). x.table.count) e

-- ---- the last arrival

some_last : (s : Slot) (xs : List Arrival) → is_some (last_of (Some s) xs) ≡ true
unfolding last_of
some_last s [] = refl
some_last s (a ∷ xs) = some_last a.slot xs

-- there is one if there are arrivals
pub arrived : (xs : List Arrival) → is_some (last_of None xs) ≡ ltb 0 (length xs)
unfolding last_of
arrived [] = refl
arrived (a ∷ xs) = some_last a.slot xs ∙ sym (lt-ltb 0 (length (a ∷ xs)) (omega arith))

-- the slot of one that may be none, 0 then
abbrev pub slot_of : Option Slot → ℕ
slot_of None = 0
slot_of (Some s) = s.0

last_from : (s : Slot) (xs : List Arrival) → slot_of (last_of (Some s) xs) ≡ last_slot s.0 xs
unfolding last_of last_slot
last_from s [] = refl
last_from s (a ∷ xs) = last_from a.slot xs

-- its slot is the paper's
pub last_is : (xs : List Arrival) → slot_of (last_of None xs) ≡ last_slot 0 xs
unfolding last_of last_slot
last_is [] = refl
last_is (a ∷ xs) = last_from a.slot xs

last_more : (s : Option Slot) (xs : List Arrival) (a : Arrival) → last_of s (xs ++ (a ∷ [])) ≡ Some a.slot
unfolding last_of
last_more s [] a = refl
last_more s (b ∷ xs) a = last_more (Some b.slot) xs a

-- ---- one field more

abbrev pub with_task : Seen → Task → Seen
with_task s t = record { table = record { tasks = set s.table.tasks s.table.count t; count = s.table.count + 1 }; last = s.last; slots = s.slots }

abbrev pub with_arrival : Seen → Arrival → Seen
with_arrival s a = record { table = s.table; last = Some a.slot; slots = s.slots }

abbrev pub with_slots : Seen → ℕ → Seen
with_slots s n = record { table = s.table; last = s.last; slots = Some n }

module _ (f : File) (bs : List ℕ) where
  pub field_task : tag bs ≡ 1 → length f.tasks < 16 → with_task (seen_of f) (task_in bs) ≡ seen_of (with_field f bs)
  unfolding with_field table_of
  field_task e h = rw (e, length-append f.tasks (task_in bs ∷ []), more_padded no_task 16 f.tasks (task_in bs) h)

  pub field_arrival : tag bs ≡ 2 → with_arrival (seen_of f) (arrival_in bs) ≡ seen_of (with_field f bs)
  unfolding with_field
  field_arrival e = rw (e, last_more None f.arrivals (arrival_in bs))

  pub field_slots : tag bs ≡ 3 → with_slots (seen_of f) (slots_in bs) ≡ seen_of (with_field f bs)
  unfolding with_field
  field_slots e = rw e
