-- The vectors that are made, from what fills them.
use mathlib.Core.Path.{◌≡◌}
use mathlib.Core.List.{List}
use Prim.Native.Nat.{ℕ, ◌%◌}
use lib.ListN.{length}
use Rattle.paper.specs.declared.Task.{Task}
use Rattle.paper.specs.declared.Table.{Table}
use Rattle.paper.specs.declared.State.{State}
use Rattle.paper.specs.Places.{K}
use Rattle.paper.specs.Vectors.{D, F, Y}
use Rattle.paper.specs.View.{view_of, tasks_of}
use Rattle.paper.specs.Calls.{filled}
use Rattle.table.specs.declared.JudgedTable.{JudgedTable}
use Rattle.moving.specs.declared.Moved.{Moved}
use Rattle.moving.specs.Above.{lefts_of, moved_of}
use Rattle.vectors.specs.Prepared.{Filled}

module _ (j : JudgedTable) (s : State) where
  abbrev t : Table
  t = j.checked.within.table

  abbrev ts : List Task
  ts = tasks_of j.checked.within.table

  pub made_is : j.places ≡ length (K (tasks_of j.checked.within.table)) → (o : ℕ) → o ≡ s.now.0 % j.checked.window
      → {f : ℕ} → f ≡ F (tasks_of j.checked.within.table)
      → {m : Moved} → m ≡ moved_of (tasks_of j.checked.within.table) (lefts_of j.checked.within.table s.requests) o
      → {k d y k' d' y' : List ℕ} → k' ≡ filled (K (tasks_of j.checked.within.table)) k → d' ≡ filled (D (tasks_of j.checked.within.table)) d
      → y' ≡ filled (Y (tasks_of j.checked.within.table) (lefts_of j.checked.within.table s.requests) o) y
      → Filled j.checked.within.table s k d y (record { window = j.checked.window; places = j.places; here = m.here; idle = f; left = m.left }) k' d' y'
  unfolding view_of
  made_is places o offset ef em ek ed ey =
      let w = j.checked.ready.is_window in
      record {
        numbers = rw (places, ef, em, offset, w);
        in_k = ek;
        in_d = ed;
        in_y = rw (ey, offset, w);
      }
