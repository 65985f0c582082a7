-- The calls as bench/ measures them: each contract said in the paper's calls alone. Board.antt has the rule for the names.
-- A measured call works on the table that the bytes say, and on the state after some admissions of one work each and then some slots.
use Rattle.std.specs.Prelude.{◌≡◌, refl, List, ℕ, zero, suc}
use Rattle.std.proofs.Math.Path.{ap}
use Rattle.std.proofs.Common.{◌∙◌}
use seplogic.Ra.Ura.{Ura}
use base.Logic.{SProp, id⊢, emp}
use prog.Memory.{Memory}
use prog.Routine.{Routine}
use types.Logic.{Logic}
use contract.Lifetimes.{Lfts}
use contract.Monad.{Fun, fact_mono}
use Rattle.std.specs.Borrow.{Bor, MutBor}
use Rattle.paper.specs.declared.Table.{Table}
use Rattle.paper.specs.declared.State.{State}
use Rattle.paper.specs.declared.Latest.TheVariants.{None as NoLatest}
use Rattle.paper.specs.Calls.{power_on_call, table_call, moving_call, admission_call, slot_call}
use Rattle.paper.specs.Fields.{fields_answer}
use Rattle.benched.specs.Stand.{Standing, TableTold, Told, admitted, ran, stands, bench_table, bench_stand, bench_moving, bench_admission}
use Rattle.benched.specs.contracts as benched
use Rattle.outcomes.specs.Tied.{Call, Said, One, says, one}
use Rattle.outcomes.specs.Parts.{table_told, table_told_parts, told_4, told_4_parts, told_5, told_5_parts}

-- ---- the state and the vectors that a call is measured at

-- f, n times
unfoldable pub times : {X : Type 0} → ℕ → (X → X) → X → X
times zero f x = x
times (suc n) f x = times n f (f x)

-- the table that the bytes say
abbrev pub table_read : List ℕ → Table
table_read bs = (fields_answer bs).table

-- what an admission with no latest finish leaves, be it accepted or refused
abbrev pub admission : Table → ℕ → Standing → Standing
admission t work a =
    let o = admission_call t a.state work NoLatest a.k a.d a.y in
    record { state = o.answer.state; k = o.k; d = o.d; y = o.y }

abbrev pub slot : Table → State → State
slot t s = (slot_call t s).state

abbrev pub then_slots : Table → ℕ → Standing → Standing
then_slots t slots a = record { state = times slots (slot t) a.state; k = a.k; d = a.d; y = a.y }

-- power-on, then the admissions, each from the state and the vectors that the one before it left, then the slots
abbrev pub measured : List ℕ → ℕ → ℕ → ℕ → List ℕ → List ℕ → List ℕ → Standing
measured bs jobs work slots k d y =
    then_slots (table_read bs) slots
    (times jobs (admission (table_read bs) work) (record { state = (power_on_call (table_read bs)).state; k = k; d = d; y = y }))

-- ---- what is told of it, and the vectors that are left

-- F
abbrev pub idle : List ℕ → List ℕ → List ℕ → TableTold
idle bs k d =
    let o = table_call (table_read bs) k d in
    record { told = o.answer.idle; k = o.k; d = o.d }

-- I
abbrev pub tally : Standing → Told
tally a = record { told = a.state.idle; k = a.k; d = a.d; y = a.y }

-- the places of the moving vectors
abbrev pub places : List ℕ → Standing → Told
places bs a =
    let o = moving_call (table_read bs) a.state a.k a.d a.y in
    record { told = o.answer.places; k = o.k; d = o.d; y = o.y }

-- the promise of one job more
abbrev pub promise : List ℕ → ℕ → Standing → Told
promise bs more a =
    let o = admission_call (table_read bs) a.state more NoLatest a.k a.d a.y in
    record { told = o.answer.promise.0; k = o.k; d = o.d; y = o.y }

-- ---- the definitions that the contracts cite are these

admitted-is : (n : ℕ) (t : Table) (work : ℕ) (a : Standing) → admitted n t work a ≡ times n (admission t work) a
unfolding admitted times
admitted-is zero t work a = refl
admitted-is (suc n) t work a = admitted-is n t work (admission t work a)

ran-is : (n : ℕ) (t : Table) (s : State) → ran n t s ≡ times n (slot t) s
unfolding ran times
ran-is zero t s = refl
ran-is (suc n) t s = ran-is n t (slot t s)

module _ (bs : List ℕ) (jobs work slots : ℕ) (k d y : List ℕ) where
  abbrev t : Table
  t = table_read bs

  abbrev start : Standing
  start = record { state = (power_on_call t).state; k = k; d = d; y = y }

  abbrev after : Standing
  after = times jobs (admission t work) start

  stands-is : stands (table_read bs) jobs work slots k d y ≡ measured bs jobs work slots k d y
  unfolding stands
  stands-is =
      ap (λ (a : Standing). record { state = ran slots t a.state; k = a.k; d = a.d; y = a.y }) (admitted-is jobs t work start)
      ∙ ap (λ (s : State). record { state = s; k = after.k; d = after.d; y = after.y }) (ran-is slots t after.state)

  stand_is : bench_stand bs jobs work slots k d y ≡ tally (measured bs jobs work slots k d y)
  unfolding bench_stand
  stand_is = ap tally stands-is

  moving_is : bench_moving bs jobs work slots k d y ≡ places bs (measured bs jobs work slots k d y)
  unfolding bench_moving
  moving_is = ap (places bs) stands-is

  admission_is : (more : ℕ) → bench_admission bs jobs work slots more k d y ≡ promise bs more (measured bs jobs work slots k d y)
  unfolding bench_admission
  admission_is more = ap (promise bs more) stands-is

table_is : (bs k d : List ℕ) → bench_table bs k d ≡ idle bs k d
unfolding bench_table
table_is bs k d = refl

module _ {M : Type 1} {𝓤 : Ura M} (𝓛 : Logic 𝓤) (mem : Memory → SProp 𝓤) (run : Routine → Fun 𝓤) where
  -- `benched::bench_fields`
  module _ (κs : Lfts 1) (bytes : Bor (List ℕ)) where
    abbrev benched_bench_fields : Call 𝓛
    benched_bench_fields = record {
      ended = benched.bench_fields.ended;
      clauses = benched.bench_fields.clauses 𝓛 mem run;
      spec = benched.bench_fields.spec 𝓛 mem run;
      is_met = refl;
      lifetimes = κs;
      args = (bytes, tt);
      ghost = tt;
    }

    pub benched_bench_fields_said : Said 𝓛 benched_bench_fields (λ r ws. r ≡ (fields_answer bytes.now).slots)
    benched_bench_fields_said = says 𝓛 benched_bench_fields (id⊢ 𝓤 (emp 𝓤)) (λ r ws. id⊢ 𝓤 _)

    pub benched_bench_fields_one : One 𝓛 benched_bench_fields
    benched_bench_fields_one = one 𝓛 benched_bench_fields benched_bench_fields_said (λ r ws. r) (λ r. (r, (tt, tt))) (λ r ws. refl) (λ r ws e. e)

  -- `benched::bench_table`
  module _ (κs : Lfts 3) (bytes : Bor (List ℕ)) (k d : MutBor (List ℕ)) where
    abbrev benched_bench_table : Call 𝓛
    benched_bench_table = record {
      ended = benched.bench_table.ended;
      clauses = benched.bench_table.clauses 𝓛 mem run;
      spec = benched.bench_table.spec 𝓛 mem run;
      is_met = refl;
      lifetimes = κs;
      args = (bytes, (k, (d, tt)));
      ghost = tt;
    }

    pub benched_bench_table_said : Said 𝓛 benched_bench_table (λ r ws. table_told r ws ≡ idle bytes.now k.now d.now)
    benched_bench_table_said = says 𝓛 benched_bench_table (id⊢ 𝓤 (emp 𝓤)) (λ r ws. fact_mono 𝓤 _ _ (λ e. e ∙ table_is bytes.now k.now d.now))

    pub benched_bench_table_one : One 𝓛 benched_bench_table
    benched_bench_table_one = one 𝓛 benched_bench_table benched_bench_table_said table_told table_told_parts (λ r ws. refl) (λ r ws e. e)

  -- `benched::bench_stand`
  module _ (κs : Lfts 4) (bytes : Bor (List ℕ)) (jobs work slots : ℕ) (k d y : MutBor (List ℕ)) where
    abbrev benched_bench_stand : Call 𝓛
    benched_bench_stand = record {
      ended = benched.bench_stand.ended;
      clauses = benched.bench_stand.clauses 𝓛 mem run;
      spec = benched.bench_stand.spec 𝓛 mem run;
      is_met = refl;
      lifetimes = κs;
      args = (bytes, (jobs, (work, (slots, (k, (d, (y, tt)))))));
      ghost = tt;
    }

    pub benched_bench_stand_said : Said 𝓛 benched_bench_stand (λ r ws. told_4 r ws ≡ tally (measured bytes.now jobs work slots k.now d.now y.now))
    benched_bench_stand_said =
        says 𝓛 benched_bench_stand (id⊢ 𝓤 (emp 𝓤))
        (λ r ws. fact_mono 𝓤 _ _ (λ e. e ∙ stand_is bytes.now jobs work slots k.now d.now y.now))

    pub benched_bench_stand_one : One 𝓛 benched_bench_stand
    benched_bench_stand_one = one 𝓛 benched_bench_stand benched_bench_stand_said told_4 told_4_parts (λ r ws. refl) (λ r ws e. e)

  -- `benched::bench_moving`
  module _ (κs : Lfts 4) (bytes : Bor (List ℕ)) (jobs work slots : ℕ) (k d y : MutBor (List ℕ)) where
    abbrev benched_bench_moving : Call 𝓛
    benched_bench_moving = record {
      ended = benched.bench_moving.ended;
      clauses = benched.bench_moving.clauses 𝓛 mem run;
      spec = benched.bench_moving.spec 𝓛 mem run;
      is_met = refl;
      lifetimes = κs;
      args = (bytes, (jobs, (work, (slots, (k, (d, (y, tt)))))));
      ghost = tt;
    }

    pub benched_bench_moving_said : Said 𝓛 benched_bench_moving
        (λ r ws. told_4 r ws ≡ places bytes.now (measured bytes.now jobs work slots k.now d.now y.now))
    benched_bench_moving_said =
        says 𝓛 benched_bench_moving (id⊢ 𝓤 (emp 𝓤))
        (λ r ws. fact_mono 𝓤 _ _ (λ e. e ∙ moving_is bytes.now jobs work slots k.now d.now y.now))

    pub benched_bench_moving_one : One 𝓛 benched_bench_moving
    benched_bench_moving_one = one 𝓛 benched_bench_moving benched_bench_moving_said told_4 told_4_parts (λ r ws. refl) (λ r ws e. e)

  -- `benched::bench_admission`
  module _ (κs : Lfts 4) (bytes : Bor (List ℕ)) (jobs work slots more : ℕ) (k d y : MutBor (List ℕ)) where
    abbrev benched_bench_admission : Call 𝓛
    benched_bench_admission = record {
      ended = benched.bench_admission.ended;
      clauses = benched.bench_admission.clauses 𝓛 mem run;
      spec = benched.bench_admission.spec 𝓛 mem run;
      is_met = refl;
      lifetimes = κs;
      args = (bytes, (jobs, (work, (slots, (more, (k, (d, (y, tt))))))));
      ghost = tt;
    }

    pub benched_bench_admission_said : Said 𝓛 benched_bench_admission
        (λ r ws. told_5 r ws ≡ promise bytes.now more (measured bytes.now jobs work slots k.now d.now y.now))
    benched_bench_admission_said =
        says 𝓛 benched_bench_admission (id⊢ 𝓤 (emp 𝓤))
        (λ r ws. fact_mono 𝓤 _ _ (λ e. e ∙ admission_is bytes.now jobs work slots k.now d.now y.now more))

    pub benched_bench_admission_one : One 𝓛 benched_bench_admission
    benched_bench_admission_one = one 𝓛 benched_bench_admission benched_bench_admission_said told_5 told_5_parts (λ r ws. refl) (λ r ws e. e)
