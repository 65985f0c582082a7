-- By what stands at the next arrival's byte.
use Rattle.std.proofs.Common.{sym, ◌∙◌}
use Rattle.listing.specs.Run.{turned}
use Rattle.listing.proofs.turn.Goals.{in_default-via-in-Some+else-eq, in_default-via-in_default}
use Rattle.listing.proofs.turn.Goals as goal

pub returns-in-Some : goal.returns-in-Some
unfolding turned
returns-in-Some c =
    rw (sym c.arrival_at.ensures ∙ c.in-Some.is, sym c.eq.ensures ∙ c.if-eq.true) c.arrival_turn.ensures

pub returns-in_default : goal.returns-in_default
unfolding turned
returns-in_default c =
    elim c.in_default.branch [
      | in_default-via-in-Some+else-eq w ↦
          rw (sym c.arrival_at.ensures ∙ w.in-Some.is, sym w.eq.ensures ∙ w.if-eq.false) c.slot_turn.ensures
      | in_default-via-in_default w ↦ rw (sym c.arrival_at.ensures ∙ w.in_default.is) c.slot_turn.ensures
    ]
