-- The beginning and the parts of a run: what they leave is what `Whole` of `listing` speaks of. `begin` asks for room for its lines.
-- Board.antt has the rule for the names.
use Rattle.std.specs.Prelude.{◌≡◌, refl, List, ℕ}
use seplogic.Ra.Ura.{Ura}
use base.Logic.{SProp, ent, id⊢, emp}
use prog.Memory.{Memory}
use prog.Routine.{Routine}
use types.Logic.{Logic}
use contract.Lifetimes.{Lfts}
use contract.Monad.{Fun, fact}
use Rattle.std.specs.Borrow.{Bor, MutBor}
use Rattle.listing.specs.declared.Running.{Running}
use Rattle.listing.specs.Run.{Outcome, begun, part}
use Rattle.listing.specs.contracts as listing
use Rattle.outcomes.specs.Tied.{Call, Answer, Left, allows, Said, One, says, one}

module _ {M : Type 1} {𝓤 : Ura M} (𝓛 : Logic 𝓤) (mem : Memory → SProp 𝓤) (run : Routine → Fun 𝓤) where
  module _ (κs : Lfts 2) (bytes : Bor (List ℕ)) (out : MutBor (List ℕ)) where
    abbrev listing_begin : Call 𝓛
    listing_begin = record {
      ended = listing.begin.ended;
      clauses = listing.begin.clauses 𝓛 mem run;
      spec = listing.begin.spec 𝓛 mem run;
      is_met = refl;
      lifetimes = κs;
      args = (bytes, (out, tt));
      ghost = tt;
    }

    -- Every outcome that the contract of `begin` allows is the one that `Whole` begins with.
    pub listing_begin_said : (r : Answer 𝓛 listing_begin) (ws : Left 𝓛 listing_begin)
        → ent 𝓤 (allows 𝓛 listing_begin r ws) (fact 𝓤 (record { running = r; out = ws.1.0 } ≡ begun bytes.now out.now))
    listing_begin_said r ws = id⊢ 𝓤 _

  module _ (κs : Lfts 2) (bytes : Bor (List ℕ)) (r : Running) (out : MutBor (List ℕ)) where
    abbrev listing_run_part : Call 𝓛
    listing_run_part = record {
      ended = listing.run_part.ended;
      clauses = listing.run_part.clauses 𝓛 mem run;
      spec = listing.run_part.spec 𝓛 mem run;
      is_met = refl;
      lifetimes = κs;
      args = (bytes, (r, (out, tt)));
      ghost = tt;
    }

    pub listing_run_part_said : Said 𝓛 listing_run_part (λ s ws. record { running = s; out = ws.1.1.0 } ≡ part bytes.now r out.now)
    listing_run_part_said = says 𝓛 listing_run_part (id⊢ 𝓤 (emp 𝓤)) (λ s ws. id⊢ 𝓤 _)

    pub listing_run_part_one : One 𝓛 listing_run_part
    listing_run_part_one =
        one 𝓛 listing_run_part listing_run_part_said (λ s ws. record { running = s; out = ws.1.1.0 }) (λ (o : Outcome). (o.running, (tt, (tt, (o.out, tt)))))
        (λ s ws. refl) (λ s ws e. e)
