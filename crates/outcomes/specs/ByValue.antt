-- The calls by value, which the board's calls make. Board.antt has the rule for the names.
use Rattle.std.specs.Prelude.{◌≡◌, refl, List, ℕ}
use seplogic.Ra.Ura.{Ura}
use base.Logic.{SProp, id⊢, emp}
use prog.Memory.{Memory}
use prog.Routine.{Routine}
use types.Logic.{Logic}
use contract.Lifetimes.{Lfts}
use contract.Monad.{Fun}
use Rattle.std.specs.Borrow.{MutBor}
use Rattle.paper.specs.declared.Table.{Table}
use Rattle.paper.specs.declared.State.{State}
use Rattle.paper.specs.declared.Latest.{Latest}
use Rattle.paper.specs.Calls.{power_on_call, table_call, moving_call, admission_call}
use Rattle.state.specs.contracts as state
use Rattle.table.specs.contracts as table
use Rattle.vectors.specs.contracts as vectors
use Rattle.admit.specs.contracts as admit
use Rattle.slot.specs.contracts as slot
use Rattle.outcomes.specs.Tied.{Call, Said, One, says, one, all_three}
use Rattle.outcomes.specs.Parts.{table_whole, table_parts, moving_whole, moving_parts, admission_whole, admission_parts, SlotSays}

module _ {M : Type 1} {𝓤 : Ura M} (𝓛 : Logic 𝓤) (mem : Memory → SProp 𝓤) (run : Routine → Fun 𝓤) where
  -- `state::power_on`
  module _ (t : Table) where
    abbrev state_power_on : Call 𝓛
    state_power_on = record {
      ended = state.power_on.ended;
      clauses = state.power_on.clauses 𝓛 mem run;
      spec = state.power_on.spec 𝓛 mem run;
      is_met = refl;
      lifetimes = tt;
      args = (t, tt);
      ghost = tt;
    }

    pub state_power_on_said : Said 𝓛 state_power_on (λ r ws. r ≡ power_on_call t)
    state_power_on_said = says 𝓛 state_power_on (id⊢ 𝓤 (emp 𝓤)) (λ r ws. id⊢ 𝓤 _)

    pub state_power_on_one : One 𝓛 state_power_on
    state_power_on_one = one 𝓛 state_power_on state_power_on_said (λ r ws. r) (λ r. (r, (tt, tt))) (λ r ws. refl) (λ r ws e. e)

  -- `table::check_table`
  module _ (κs : Lfts 2) (t : Table) (k d : MutBor (List ℕ)) where
    abbrev table_check_table : Call 𝓛
    table_check_table = record {
      ended = table.check_table.ended;
      clauses = table.check_table.clauses 𝓛 mem run;
      spec = table.check_table.spec 𝓛 mem run;
      is_met = refl;
      lifetimes = κs;
      args = (t, (k, (d, tt)));
      ghost = tt;
    }

    pub table_check_table_said : Said 𝓛 table_check_table (λ r ws. table_whole r ws ≡ table_call t k.now d.now)
    table_check_table_said = says 𝓛 table_check_table (id⊢ 𝓤 (emp 𝓤)) (λ r ws. id⊢ 𝓤 _)

    pub table_check_table_one : One 𝓛 table_check_table
    table_check_table_one = one 𝓛 table_check_table table_check_table_said table_whole table_parts (λ r ws. refl) (λ r ws e. e)

  -- `vectors::moving_vectors`
  module _ (κs : Lfts 3) (t : Table) (s : State) (k d y : MutBor (List ℕ)) where
    abbrev vectors_moving_vectors : Call 𝓛
    vectors_moving_vectors = record {
      ended = vectors.moving_vectors.ended;
      clauses = vectors.moving_vectors.clauses 𝓛 mem run;
      spec = vectors.moving_vectors.spec 𝓛 mem run;
      is_met = refl;
      lifetimes = κs;
      args = (t, (s, (k, (d, (y, tt)))));
      ghost = tt;
    }

    pub vectors_moving_vectors_said : Said 𝓛 vectors_moving_vectors (λ r ws. moving_whole r ws ≡ moving_call t s k.now d.now y.now)
    vectors_moving_vectors_said = says 𝓛 vectors_moving_vectors (id⊢ 𝓤 (emp 𝓤)) (λ r ws. id⊢ 𝓤 _)

    pub vectors_moving_vectors_one : One 𝓛 vectors_moving_vectors
    vectors_moving_vectors_one = one 𝓛 vectors_moving_vectors vectors_moving_vectors_said moving_whole moving_parts (λ r ws. refl) (λ r ws e. e)

  -- `admit::admit`
  module _ (κs : Lfts 3) (t : Table) (s : State) (work : ℕ) (latest : Latest) (k d y : MutBor (List ℕ)) where
    abbrev admit_admit : Call 𝓛
    admit_admit = record {
      ended = admit.admit.ended;
      clauses = admit.admit.clauses 𝓛 mem run;
      spec = admit.admit.spec 𝓛 mem run;
      is_met = refl;
      lifetimes = κs;
      args = (t, (s, (work, (latest, (k, (d, (y, tt)))))));
      ghost = tt;
    }

    pub admit_admit_said : Said 𝓛 admit_admit (λ r ws. admission_whole r ws ≡ admission_call t s work latest k.now d.now y.now)
    admit_admit_said = says 𝓛 admit_admit (id⊢ 𝓤 (emp 𝓤)) (λ r ws. id⊢ 𝓤 _)

    pub admit_admit_one : One 𝓛 admit_admit
    admit_admit_one = one 𝓛 admit_admit admit_admit_said admission_whole admission_parts (λ r ws. refl) (λ r ws e. e)

  -- `slot::slot`
  module _ (t : Table) (s : State) where
    abbrev slot_slot : Call 𝓛
    slot_slot = record {
      ended = slot.slot.ended;
      clauses = slot.slot.clauses 𝓛 mem run;
      spec = slot.slot.spec 𝓛 mem run;
      is_met = refl;
      lifetimes = tt;
      args = (t, (s, tt));
      ghost = tt;
    }

    pub slot_slot_said : Said 𝓛 slot_slot (λ r ws. SlotSays r t s)
    slot_slot_said = says 𝓛 slot_slot (id⊢ 𝓤 (emp 𝓤)) (λ r ws. all_three 𝓤 _ _ _)

    pub slot_slot_one : One 𝓛 slot_slot
    slot_slot_one = one 𝓛 slot_slot slot_slot_said (λ r ws. r) (λ r. (r, (tt, (tt, tt)))) (λ r ws. refl) (λ r ws e. e.0)
