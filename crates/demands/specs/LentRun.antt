-- The table of a lent run of tasks: whatever the run, it has sixteen places, and of at most sixteen records it has them all.
use Rattle.std.specs.Prelude.{◌≡◌, List, ◌++◌, ◌≤◌, length, replicate}
use Rattle.std.proofs.Common.{◌∙◌, take-take}
use Rattle.std.proofs.Math.Seq.{take-append_seam}
use Rattle.paper.specs.declared.Task.{Task}
use Rattle.paper.specs.View.{no_task, tasks_of, table_of}
use Rattle.theory.specs.Padded.{length-padded}

-- Any run, also one of more than sixteen records, gives a table of sixteen places.
pub sixteen_places : (ts : List Task) → length (table_of ts).tasks ≡ 16
unfolding table_of
sixteen_places ts = length-padded no_task 16 ts

-- The table of at most sixteen records has them all.
pub lent_tasks : (ts : List Task) → length ts ≤ 16 → tasks_of (table_of ts) ≡ ts
unfolding tasks_of table_of
lent_tasks ts h = take-take (length ts) 16 (ts ++ replicate 16 no_task) h ∙ take-append_seam ts (replicate 16 no_task)
