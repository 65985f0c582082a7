-- A run, line by line: the line of the next arrival where it is for this slot, and else the line of the slot.
-- What is left of the listing after a line is a run again, of fewer lines, so it can be stopped and taken up after any line.
use Rattle.std.specs.Prelude.{◌≡◌, Option, Some, None}
use Rattle.std.proofs.Math.Path.{refl, ap}
use mathlib.Core.List.{List, [], ◌∷◌, ◌++◌, append_assoc}
use Prim.Native.Nat.{ℕ, suc, ◌-◌, ◌<◌}
use Rattle.std.proofs.Math.Decide.{ℕ_discrete}
use Rattle.std.proofs.Math.Numerals.{add-one}
use Rattle.std.proofs.Common.{arith, eq-eqb, ne_eqb}
use Rattle.std.proofs.Math.ListN.{length}
use Rattle.paper.specs.declared.Table.{Table}
use Rattle.paper.specs.declared.State.{State}
use Rattle.paper.specs.declared.Arrival.{Arrival}
use Rattle.paper.specs.Calls.{slot_call}
use Rattle.paper.specs.Listing.{arrival_line, slot_line, asked, arrive, run_from}
use Rattle.paper.specs.declared.Next.{Next}
use Rattle.fields.specs.Arrivals.{arrivals_from}
use Rattle.paper.specs.Fields.{arrival_at}
use Rattle.fields.proofs.OnDemand.{arrivals_next, arrivals_end}
use Rattle.listing.specs.declared.Running.{Running}
use Rattle.decimal.specs.Written.{Wrote}
use Rattle.listing.specs.Run.{Outcome, arrival_turn, slot_turn, turn_by, turned, turns}

-- no arrival is next, or it is for another slot
abbrev NoneAt : ℕ → List Arrival → Type 0
NoneAt now [] = Unit {0}
NoneAt now (a ∷ more) = a.slot.0 ≡ now → ⊥

module _ (t : Table) (now : ℕ) (s : State) where
  none_arrives : (more : List Arrival) → NoneAt now more → arrive t now more s ≡ record { lines = []; state = s; rest = more }
  unfolding arrive
  none_arrives [] h = refl
  none_arrives (a ∷ more) h = rw (ne_eqb a.slot.0 now h)

  module _ (n : ℕ) where
    turn_arrival : (a : Arrival) (more : List Arrival) → a.slot.0 ≡ now
        → run_from t (suc n) now (a ∷ more) s ≡ arrival_line a (asked t s a) ++ run_from t (suc n) now more (asked t s a).state
    unfolding run_from arrive
    turn_arrival a more h =
        let r = asked t s a in
        let x = arrive t now more r.state in
        rw (eq-eqb a.slot.0 now h)
        (append_assoc (arrival_line a r) x.lines (slot_line now (slot_call t x.state) ++ run_from t n (suc now) x.rest (slot_call t x.state).state))

    turn_slot : (more : List Arrival) → NoneAt now more
        → run_from t (suc n) now more s ≡ slot_line now (slot_call t s) ++ run_from t n (suc now) more (slot_call t s).state
    unfolding run_from
    turn_slot more h = rw (none_arrives more h)

-- ---- what is left of a run, and one line of it

unfoldable pub rest : List ℕ → Running → List ℕ
rest bs r = run_from r.table (r.end - r.now) r.now (arrivals_from r.at bs) r.state

-- a line was written; with what is left it is what was left, and fewer lines are left
pub record Turn (bs : List ℕ) (r : Running) (out : List ℕ) (o : Outcome) : Type 0 where
  pub line : List ℕ
  pub wrote : Wrote out r.written line o.running.written o.out
  pub left : rest bs r ≡ line ++ rest bs o.running
  pub fewer : turns bs o.running < turns bs r

module _ (bs : List ℕ) (r : Running) (out : List ℕ) (goes : r.now < r.end) where
  more : r.end - r.now ≡ suc (r.end - suc r.now)
  more = omega arith

  arrival_turn_lem : (n : Next) → arrival_at bs r.at ≡ Some n → n.arrival.slot.0 ≡ r.now → Turn bs r out (arrival_turn r n.arrival n.after out)
  unfolding rest turns
  arrival_turn_lem n e h =
      let a = n.arrival in
      let answer = asked r.table r.state a in
      let q = arrivals_next bs r.at n e in
      record {
        line = arrival_line a answer;
        wrote = record { place = refl; bytes = refl };
        left = rw (more, q) (turn_arrival r.table r.now r.state (r.end - suc r.now) a (arrivals_from n.after bs) h);
        fewer = omega (arith, ap length q);
      }

  slot_turn_lem : NoneAt r.now (arrivals_from r.at bs) → Turn bs r out (slot_turn r out)
  unfolding rest turns
  slot_turn_lem h = record {
    line = slot_line r.now (slot_call r.table r.state);
    wrote = record { place = refl; bytes = refl };
    left = rw (more, add-one r.now) (turn_slot r.table r.now r.state (r.end - suc r.now) (arrivals_from r.at bs) h);
    fewer = omega arith;
  }

  turn_by_lem : (n : Option Next) → arrival_at bs r.at ≡ n → Turn bs r out (turn_by n r out)
  turn_by_lem (Some n) e =
      elim (ℕ_discrete n.arrival.slot.0 r.now) [
        | yes h ↦ rw (eq-eqb n.arrival.slot.0 r.now h) (arrival_turn_lem n e h)
        | no h ↦ rw (ne_eqb n.arrival.slot.0 r.now h) (slot_turn_lem (rw (arrivals_next bs r.at n e) h))
      ]
  turn_by_lem None e = slot_turn_lem (rw (arrivals_end bs r.at e) tt)

  -- a turn of a run that goes on
  pub turned_on : Turn bs r out (turned bs r out)
  unfolding turned
  turned_on = turn_by_lem (arrival_at bs r.at) refl
