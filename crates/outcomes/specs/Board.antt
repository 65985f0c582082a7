-- The calls as the board makes them, and the table of a lent run. `CRATE::FUNCTION` has the theorems `CRATE_FUNCTION_said` and
-- `CRATE_FUNCTION_one`, each `::` of its path being a `_`. `said`: the contract that it was proved to meet says the paper's
-- equation, and asks nothing of the caller. `one`: any two outcomes that this contract allows are equal, the answer, the state and each
-- lent vector to its end, on refusal as on success.
use Rattle.std.specs.Prelude.{◌≡◌, refl, List, ℕ}
use seplogic.Ra.Ura.{Ura}
use base.Logic.{SProp, id⊢, emp}
use prog.Memory.{Memory}
use prog.Routine.{Routine}
use types.Logic.{Logic}
use contract.Lifetimes.{Lfts}
use contract.Monad.{Fun}
use Rattle.std.specs.Borrow.{Bor, MutBor}
use Rattle.paper.specs.declared.Task.{Task}
use Rattle.paper.specs.declared.State.{State}
use Rattle.paper.specs.declared.Latest.{Latest}
use Rattle.paper.specs.View.{table_of}
use Rattle.paper.specs.Calls.{power_on_call, table_call, moving_call, admission_call}
use Rattle.board.specs.contracts as board
use Rattle.outcomes.specs.Tied.{Call, Said, One, says, one, all_three}
use Rattle.outcomes.specs.Parts.{table_whole, table_parts, moving_whole, moving_parts, admission_whole, admission_parts, SlotSays, tick_whole, tick_parts}

module _ {M : Type 1} {𝓤 : Ura M} (𝓛 : Logic 𝓤) (mem : Memory → SProp 𝓤) (run : Routine → Fun 𝓤) where
  -- `board::lent::table_of`
  module _ (κs : Lfts 1) (ts : Bor (List Task)) where
    abbrev board_lent_table_of : Call 𝓛
    board_lent_table_of = record {
      ended = board.lent.table_of.ended;
      clauses = board.lent.table_of.clauses 𝓛 mem run;
      spec = board.lent.table_of.spec 𝓛 mem run;
      is_met = refl;
      lifetimes = κs;
      args = (ts, tt);
      ghost = tt;
    }

    pub board_lent_table_of_said : Said 𝓛 board_lent_table_of (λ r ws. r ≡ table_of ts.now)
    board_lent_table_of_said = says 𝓛 board_lent_table_of (id⊢ 𝓤 (emp 𝓤)) (λ r ws. id⊢ 𝓤 _)

    pub board_lent_table_of_one : One 𝓛 board_lent_table_of
    board_lent_table_of_one = one 𝓛 board_lent_table_of board_lent_table_of_said (λ r ws. r) (λ r. (r, (tt, tt))) (λ r ws. refl) (λ r ws e. e)

  -- `board::power_on`
  module _ (κs : Lfts 1) (ts : Bor (List Task)) where
    abbrev board_power_on : Call 𝓛
    board_power_on = record {
      ended = board.power_on.ended;
      clauses = board.power_on.clauses 𝓛 mem run;
      spec = board.power_on.spec 𝓛 mem run;
      is_met = refl;
      lifetimes = κs;
      args = (ts, tt);
      ghost = tt;
    }

    pub board_power_on_said : Said 𝓛 board_power_on (λ r ws. r ≡ power_on_call (table_of ts.now))
    board_power_on_said = says 𝓛 board_power_on (id⊢ 𝓤 (emp 𝓤)) (λ r ws. id⊢ 𝓤 _)

    pub board_power_on_one : One 𝓛 board_power_on
    board_power_on_one = one 𝓛 board_power_on board_power_on_said (λ r ws. r) (λ r. (r, (tt, tt))) (λ r ws. refl) (λ r ws e. e)

  -- `board::check_table`
  module _ (κs : Lfts 3) (ts : Bor (List Task)) (k d : MutBor (List ℕ)) where
    abbrev board_check_table : Call 𝓛
    board_check_table = record {
      ended = board.check_table.ended;
      clauses = board.check_table.clauses 𝓛 mem run;
      spec = board.check_table.spec 𝓛 mem run;
      is_met = refl;
      lifetimes = κs;
      args = (ts, (k, (d, tt)));
      ghost = tt;
    }

    pub board_check_table_said : Said 𝓛 board_check_table (λ r ws. table_whole r ws ≡ table_call (table_of ts.now) k.now d.now)
    board_check_table_said = says 𝓛 board_check_table (id⊢ 𝓤 (emp 𝓤)) (λ r ws. id⊢ 𝓤 _)

    pub board_check_table_one : One 𝓛 board_check_table
    board_check_table_one = one 𝓛 board_check_table board_check_table_said table_whole table_parts (λ r ws. refl) (λ r ws e. e)

  -- `board::moving_vectors`
  module _ (κs : Lfts 4) (ts : Bor (List Task)) (s : State) (k d y : MutBor (List ℕ)) where
    abbrev board_moving_vectors : Call 𝓛
    board_moving_vectors = record {
      ended = board.moving_vectors.ended;
      clauses = board.moving_vectors.clauses 𝓛 mem run;
      spec = board.moving_vectors.spec 𝓛 mem run;
      is_met = refl;
      lifetimes = κs;
      args = (ts, (s, (k, (d, (y, tt)))));
      ghost = tt;
    }

    pub board_moving_vectors_said : Said 𝓛 board_moving_vectors (λ r ws. moving_whole r ws ≡ moving_call (table_of ts.now) s k.now d.now y.now)
    board_moving_vectors_said = says 𝓛 board_moving_vectors (id⊢ 𝓤 (emp 𝓤)) (λ r ws. id⊢ 𝓤 _)

    pub board_moving_vectors_one : One 𝓛 board_moving_vectors
    board_moving_vectors_one = one 𝓛 board_moving_vectors board_moving_vectors_said moving_whole moving_parts (λ r ws. refl) (λ r ws e. e)

  -- `board::admit`
  module _ (κs : Lfts 4) (ts : Bor (List Task)) (s : State) (work : ℕ) (latest : Latest) (k d y : MutBor (List ℕ)) where
    abbrev board_admit : Call 𝓛
    board_admit = record {
      ended = board.admit.ended;
      clauses = board.admit.clauses 𝓛 mem run;
      spec = board.admit.spec 𝓛 mem run;
      is_met = refl;
      lifetimes = κs;
      args = (ts, (s, (work, (latest, (k, (d, (y, tt)))))));
      ghost = tt;
    }

    pub board_admit_said : Said 𝓛 board_admit (λ r ws. admission_whole r ws ≡ admission_call (table_of ts.now) s work latest k.now d.now y.now)
    board_admit_said = says 𝓛 board_admit (id⊢ 𝓤 (emp 𝓤)) (λ r ws. id⊢ 𝓤 _)

    pub board_admit_one : One 𝓛 board_admit
    board_admit_one = one 𝓛 board_admit board_admit_said admission_whole admission_parts (λ r ws. refl) (λ r ws e. e)

  -- `board::tick`
  module _ (κs : Lfts 2) (ts : Bor (List Task)) (s : MutBor State) where
    abbrev board_tick : Call 𝓛
    board_tick = record {
      ended = board.tick.ended;
      clauses = board.tick.clauses 𝓛 mem run;
      spec = board.tick.spec 𝓛 mem run;
      is_met = refl;
      lifetimes = κs;
      args = (ts, (s, tt));
      ghost = tt;
    }

    pub board_tick_said : Said 𝓛 board_tick (λ r ws. SlotSays (tick_whole r ws) (table_of ts.now) s.now)
    board_tick_said = says 𝓛 board_tick (id⊢ 𝓤 (emp 𝓤)) (λ r ws. all_three 𝓤 _ _ _)

    pub board_tick_one : One 𝓛 board_tick
    board_tick_one = one 𝓛 board_tick board_tick_said tick_whole tick_parts (λ r ws. refl) (λ r ws e. e.0)
