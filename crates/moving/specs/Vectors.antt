-- The numbers of the vectors of a table and of its requests at a time.
use Rattle.std.specs.Prelude.{ℕ, ◌%◌, List, length}
use Rattle.paper.specs.declared.Task.{Task}
use Rattle.paper.specs.Window.{window}
use Rattle.paper.specs.Places.{K}
use Rattle.paper.specs.Vectors.{sum, here, F, Y}
use Rattle.moving.specs.declared.Made.{Made}

-- of the tasks ts, with ls left of their requests at the time now
abbrev pub made_of : List Task → List ℕ → ℕ → Made
made_of ts ls now = record {
  window = window ts;
  places = length (K ts);
  here = here ts (now % window ts);
  idle = F ts;
  left = sum (Y ts ls (now % window ts));
}
