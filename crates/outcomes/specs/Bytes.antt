-- The calls that take bytes: the reader and its parts, and the boot call for C. Board.antt has the rule for the names.
use Rattle.std.specs.Prelude.{◌≡◌, refl, List, [], ◌∷◌, ◌++◌, ℕ, leb, length}
use seplogic.Ra.Ura.{Ura}
use base.Logic.{SProp, id⊢, emp}
use prog.Memory.{Memory}
use prog.Routine.{Routine}
use types.Logic.{Logic}
use contract.Lifetimes.{Lfts}
use contract.Monad.{Fun}
use Rattle.std.specs.Borrow.{Bor}
use Rattle.paper.specs.declared.Table.{Table}
use Rattle.paper.specs.declared.Verdict.{Verdict}
use Rattle.paper.specs.View.{tasks_of}
use Rattle.paper.specs.Refusals.{refusal_4, refusal_6}
use Rattle.paper.specs.Calls.{first_given, one_to_three}
use Rattle.paper.specs.Fields.{number_at, tag, body_length, field_length, fields_answer, arrival_at, boot_by, boot_call}
use Rattle.fields.specs.contracts as fields
use Rattle.tagged.specs.contracts as tagged
use Rattle.boot.specs.contracts as boot
use Rattle.outcomes.specs.Tied.{Call, Said, One, says, one}

module _ {M : Type 1} {𝓤 : Ura M} (𝓛 : Logic 𝓤) (mem : Memory → SProp 𝓤) (run : Routine → Fun 𝓤) where
  -- `fields::read_fields`
  module _ (κs : Lfts 1) (bytes : Bor (List ℕ)) where
    abbrev fields_read_fields : Call 𝓛
    fields_read_fields = record {
      ended = fields.read_fields.ended;
      clauses = fields.read_fields.clauses 𝓛 mem run;
      spec = fields.read_fields.spec 𝓛 mem run;
      is_met = refl;
      lifetimes = κs;
      args = (bytes, tt);
      ghost = tt;
    }

    pub fields_read_fields_said : Said 𝓛 fields_read_fields (λ r ws. r ≡ fields_answer bytes.now)
    fields_read_fields_said = says 𝓛 fields_read_fields (id⊢ 𝓤 (emp 𝓤)) (λ r ws. id⊢ 𝓤 _)

    pub fields_read_fields_one : One 𝓛 fields_read_fields
    fields_read_fields_one = one 𝓛 fields_read_fields fields_read_fields_said (λ r ws. r) (λ r. (r, (tt, tt))) (λ r ws. refl) (λ r ws e. e)

  -- `fields::arrival_at`
  module _ (κs : Lfts 1) (bytes : Bor (List ℕ)) (at : ℕ) where
    abbrev fields_arrival_at : Call 𝓛
    fields_arrival_at = record {
      ended = fields.arrival_at.ended;
      clauses = fields.arrival_at.clauses 𝓛 mem run;
      spec = fields.arrival_at.spec 𝓛 mem run;
      is_met = refl;
      lifetimes = κs;
      args = (bytes, (at, tt));
      ghost = tt;
    }

    pub fields_arrival_at_said : Said 𝓛 fields_arrival_at (λ r ws. r ≡ arrival_at bytes.now at)
    fields_arrival_at_said = says 𝓛 fields_arrival_at (id⊢ 𝓤 (emp 𝓤)) (λ r ws. id⊢ 𝓤 _)

    pub fields_arrival_at_one : One 𝓛 fields_arrival_at
    fields_arrival_at_one = one 𝓛 fields_arrival_at fields_arrival_at_said (λ r ws. r) (λ r. (r, (tt, (tt, tt)))) (λ r ws. refl) (λ r ws e. e)

  -- `boot::pyeodasik_boot`
  module _ (κs : Lfts 1) (bytes : Bor (List ℕ)) where
    abbrev boot_pyeodasik_boot : Call 𝓛
    boot_pyeodasik_boot = record {
      ended = boot.pyeodasik_boot.ended;
      clauses = boot.pyeodasik_boot.clauses 𝓛 mem run;
      spec = boot.pyeodasik_boot.spec 𝓛 mem run;
      is_met = refl;
      lifetimes = κs;
      args = (bytes, tt);
      ghost = tt;
    }

    pub boot_pyeodasik_boot_said : Said 𝓛 boot_pyeodasik_boot (λ r ws. r ≡ boot_call bytes.now)
    boot_pyeodasik_boot_said = says 𝓛 boot_pyeodasik_boot (id⊢ 𝓤 (emp 𝓤)) (λ r ws. id⊢ 𝓤 _)

    pub boot_pyeodasik_boot_one : One 𝓛 boot_pyeodasik_boot
    boot_pyeodasik_boot_one = one 𝓛 boot_pyeodasik_boot boot_pyeodasik_boot_said (λ r ws. r) (λ r. (r, (tt, tt))) (λ r ws. refl) (λ r ws e. e)

  -- `boot::judge`
  module _ (v : Verdict) (t : Table) where
    abbrev boot_judge : Call 𝓛
    boot_judge = record {
      ended = boot.judge.ended;
      clauses = boot.judge.clauses 𝓛 mem run;
      spec = boot.judge.spec 𝓛 mem run;
      is_met = refl;
      lifetimes = tt;
      args = (v, (t, tt));
      ghost = tt;
    }

    pub boot_judge_said : Said 𝓛 boot_judge
        (λ r ws. r ≡ boot_by (first_given (v ∷ (one_to_three t ++ (refusal_4 (tasks_of t) ∷ refusal_6 (tasks_of t) ∷ [])))) (tasks_of t))
    boot_judge_said = says 𝓛 boot_judge (id⊢ 𝓤 (emp 𝓤)) (λ r ws. id⊢ 𝓤 _)

    pub boot_judge_one : One 𝓛 boot_judge
    boot_judge_one = one 𝓛 boot_judge boot_judge_said (λ r ws. r) (λ r. (r, (tt, (tt, tt)))) (λ r ws. refl) (λ r ws e. e)

  -- `tagged::number_of_2`
  module _ (κs : Lfts 1) (bytes : Bor (List ℕ)) (at : ℕ) where
    abbrev tagged_number_of_2 : Call 𝓛
    tagged_number_of_2 = record {
      ended = tagged.number_of_2.ended;
      clauses = tagged.number_of_2.clauses 𝓛 mem run;
      spec = tagged.number_of_2.spec 𝓛 mem run;
      is_met = refl;
      lifetimes = κs;
      args = (bytes, (at, tt));
      ghost = tt;
    }

    pub tagged_number_of_2_said : Said 𝓛 tagged_number_of_2 (λ r ws. r ≡ number_at at 2 bytes.now)
    tagged_number_of_2_said = says 𝓛 tagged_number_of_2 (id⊢ 𝓤 (emp 𝓤)) (λ r ws. id⊢ 𝓤 _)

    pub tagged_number_of_2_one : One 𝓛 tagged_number_of_2
    tagged_number_of_2_one = one 𝓛 tagged_number_of_2 tagged_number_of_2_said (λ r ws. r) (λ r. (r, (tt, (tt, tt)))) (λ r ws. refl) (λ r ws e. e)

  -- `tagged::number_of_4`
  module _ (κs : Lfts 1) (bytes : Bor (List ℕ)) (at : ℕ) where
    abbrev tagged_number_of_4 : Call 𝓛
    tagged_number_of_4 = record {
      ended = tagged.number_of_4.ended;
      clauses = tagged.number_of_4.clauses 𝓛 mem run;
      spec = tagged.number_of_4.spec 𝓛 mem run;
      is_met = refl;
      lifetimes = κs;
      args = (bytes, (at, tt));
      ghost = tt;
    }

    pub tagged_number_of_4_said : Said 𝓛 tagged_number_of_4 (λ r ws. r ≡ number_at at 4 bytes.now)
    tagged_number_of_4_said = says 𝓛 tagged_number_of_4 (id⊢ 𝓤 (emp 𝓤)) (λ r ws. id⊢ 𝓤 _)

    pub tagged_number_of_4_one : One 𝓛 tagged_number_of_4
    tagged_number_of_4_one = one 𝓛 tagged_number_of_4 tagged_number_of_4_said (λ r ws. r) (λ r. (r, (tt, (tt, tt)))) (λ r ws. refl) (λ r ws e. e)

  -- `tagged::tag_of`
  module _ (κs : Lfts 1) (field : Bor (List ℕ)) where
    abbrev tagged_tag_of : Call 𝓛
    tagged_tag_of = record {
      ended = tagged.tag_of.ended;
      clauses = tagged.tag_of.clauses 𝓛 mem run;
      spec = tagged.tag_of.spec 𝓛 mem run;
      is_met = refl;
      lifetimes = κs;
      args = (field, tt);
      ghost = tt;
    }

    pub tagged_tag_of_said : Said 𝓛 tagged_tag_of (λ r ws. r ≡ tag field.now)
    tagged_tag_of_said = says 𝓛 tagged_tag_of (id⊢ 𝓤 (emp 𝓤)) (λ r ws. id⊢ 𝓤 _)

    pub tagged_tag_of_one : One 𝓛 tagged_tag_of
    tagged_tag_of_one = one 𝓛 tagged_tag_of tagged_tag_of_said (λ r ws. r) (λ r. (r, (tt, tt))) (λ r ws. refl) (λ r ws e. e)

  -- `tagged::body_length`
  module _ (κs : Lfts 1) (field : Bor (List ℕ)) where
    abbrev tagged_body_length : Call 𝓛
    tagged_body_length = record {
      ended = tagged.body_length.ended;
      clauses = tagged.body_length.clauses 𝓛 mem run;
      spec = tagged.body_length.spec 𝓛 mem run;
      is_met = refl;
      lifetimes = κs;
      args = (field, tt);
      ghost = tt;
    }

    pub tagged_body_length_said : Said 𝓛 tagged_body_length (λ r ws. r ≡ body_length field.now)
    tagged_body_length_said = says 𝓛 tagged_body_length (id⊢ 𝓤 (emp 𝓤)) (λ r ws. id⊢ 𝓤 _)

    pub tagged_body_length_one : One 𝓛 tagged_body_length
    tagged_body_length_one = one 𝓛 tagged_body_length tagged_body_length_said (λ r ws. r) (λ r. (r, (tt, tt))) (λ r ws. refl) (λ r ws e. e)

  -- `tagged::field_length`
  module _ (κs : Lfts 1) (field : Bor (List ℕ)) where
    abbrev tagged_field_length : Call 𝓛
    tagged_field_length = record {
      ended = tagged.field_length.ended;
      clauses = tagged.field_length.clauses 𝓛 mem run;
      spec = tagged.field_length.spec 𝓛 mem run;
      is_met = refl;
      lifetimes = κs;
      args = (field, tt);
      ghost = tt;
    }

    pub tagged_field_length_said : Said 𝓛 tagged_field_length (λ r ws. r ≡ field_length field.now)
    tagged_field_length_said = says 𝓛 tagged_field_length (id⊢ 𝓤 (emp 𝓤)) (λ r ws. id⊢ 𝓤 _)

    pub tagged_field_length_one : One 𝓛 tagged_field_length
    tagged_field_length_one = one 𝓛 tagged_field_length tagged_field_length_said (λ r ws. r) (λ r. (r, (tt, tt))) (λ r ws. refl) (λ r ws e. e)

  -- `tagged::is_whole`
  module _ (κs : Lfts 1) (field : Bor (List ℕ)) where
    abbrev tagged_is_whole : Call 𝓛
    tagged_is_whole = record {
      ended = tagged.is_whole.ended;
      clauses = tagged.is_whole.clauses 𝓛 mem run;
      spec = tagged.is_whole.spec 𝓛 mem run;
      is_met = refl;
      lifetimes = κs;
      args = (field, tt);
      ghost = tt;
    }

    pub tagged_is_whole_said : Said 𝓛 tagged_is_whole (λ r ws. r ≡ leb (field_length field.now) (length field.now))
    tagged_is_whole_said = says 𝓛 tagged_is_whole (id⊢ 𝓤 (emp 𝓤)) (λ r ws. id⊢ 𝓤 _)

    pub tagged_is_whole_one : One 𝓛 tagged_is_whole
    tagged_is_whole_one = one 𝓛 tagged_is_whole tagged_is_whole_said (λ r ws. r) (λ r. (r, (tt, tt))) (λ r ws. refl) (λ r ws e. e)
