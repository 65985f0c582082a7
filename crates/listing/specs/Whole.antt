-- `begin`, and then parts until the run is over: what they write, joined in order, is the paper's listing, whatever stood in the
-- buffers, and as many parts suffice as there are lines. `begun` and `part` are what the contracts of `begin` and `run_part` say.
use Rattle.std.specs.Prelude.{ℕ, zero, suc, ◌-◌, ◌≤◌, ◌≡◌, cond, ltb, length, replicate}
use Rattle.std.proofs.Math.Path.{refl, ap}
use Rattle.std.proofs.Common.{sym, ◌∙◌, ltb-true, ltb-false}
use Rattle.std.proofs.Math.Logic.{inl, inr}
use mathlib.Core.List.{List, [], ◌∷◌, ◌++◌, append_assoc, append-nil}
use native.Mathlib.Omega.{arith}
use Rattle.std.proofs.lemmas.List.{length-replicate}
use Rattle.paper.specs.Listing.{run_from, listing}
use Rattle.listing.specs.declared.Running.{Running}
use Rattle.listing.specs.Run.{shown, begun, turns, part}
use Rattle.listing.specs.Turns.{rest}
use Rattle.listing.specs.Part.{one_way, part-rest, part-fewer}
use Rattle.listing.specs.Begin.{begun-told}

-- ---- the program

-- what was written in all, and the run that is left
pub record Listed : Type 0 where
  pub bytes : List ℕ
  pub running : Running

abbrev pub after : List ℕ → Listed → Listed
after bytes l = record { bytes = bytes ++ l.bytes; running = l.running }

-- parts while the run is not over, each in the next of these buffers
unfoldable pub parts : List ℕ → Running → List (List ℕ) → Listed
parts bs r [] = record { bytes = []; running = r }
parts bs r (out ∷ outs) =
    cond (ltb r.now r.end) (after (shown (part bs r out)) (parts bs (part bs r out).running outs)) (record { bytes = []; running = r })

-- the beginning, in a buffer of its own, and the parts
abbrev pub listed : List ℕ → List ℕ → List (List ℕ) → Listed
listed bs first outs = after (shown (begun bs first)) (parts bs (begun bs first).running outs)

-- each has room for a line
abbrev pub Roomy : List (List ℕ) → Type 0
Roomy [] = Unit {0}
Roomy (out ∷ outs) = (80 ≤ length out) × Roomy outs

module _ (bs : List ℕ) where
  parts-rest : (outs : List (List ℕ)) (r : Running) → (parts bs r outs).bytes ++ rest bs (parts bs r outs).running ≡ rest bs r
  unfolding parts
  parts-rest [] r = refl
  parts-rest (out ∷ outs) r =
      elim (one_way (ltb r.now r.end)) [
        | inl e ↦
            let p = part bs r out in
            let more = parts bs p.running outs in
            rw e (append_assoc (shown p) more.bytes (rest bs more.running) ∙ ap (λ (l : List ℕ). shown p ++ l) (parts-rest outs p.running) ∙ part-rest bs r out)
        | inr e ↦ rw e
      ]

  parts-over : (outs : List (List ℕ)) (r : Running) → Roomy outs → turns bs r ≤ length outs → (parts bs r outs).running.end ≤ (parts bs r outs).running.now
  unfolding parts turns
  parts-over [] r h k = omega arith
  parts-over (out ∷ outs) r h k =
      elim (one_way (ltb r.now r.end)) [
        | inl e ↦ rw e (parts-over outs (part bs r out).running h.1 (omega (arith, part-fewer bs r out (ltb-true r.now r.end e) h.0)))
        | inr e ↦ rw e (ltb-false r.now r.end e)
      ]

  over_rest : (r : Running) → r.end ≤ r.now → rest bs r ≡ []
  unfolding rest run_from
  over_rest r h =
      let none : r.end - r.now ≡ 0 = omega arith in
      rw none

  -- THE WHOLE LISTING, for every file, in any buffers that have room for a line: as many parts as lines end the run, and all that was
  -- written is the paper's listing
  pub whole : (first : List ℕ) (outs : List (List ℕ)) → Roomy outs → turns bs (begun bs first).running ≤ length outs
      → ((listed bs first outs).bytes ≡ listing bs) × ((listed bs first outs).running.end ≤ (listed bs first outs).running.now)
  whole first outs room enough =
      let b = begun bs first in
      let p = parts bs b.running outs in
      let over = parts-over outs b.running room enough in
      let none : p.bytes ≡ rest bs b.running =
      sym (append-nil p.bytes) ∙ ap (λ (l : List ℕ). p.bytes ++ l) (sym (over_rest p.running over)) ∙ parts-rest outs b.running in
      (ap (λ (l : List ℕ). shown b ++ l) none ∙ begun-told bs first, over)

  roomy : (out : List ℕ) → 80 ≤ length out → (n : ℕ) → Roomy (replicate n out)
  roomy out h zero = tt
  roomy out h (suc n) = (h, roomy out h n)

  -- as the run program has it, with one and the same fresh buffer for the beginning and for each part
  pub in_fresh_buffers : (fresh : List ℕ) → 80 ≤ length fresh
      → (listed bs fresh (replicate (turns bs (begun bs fresh).running) fresh)).bytes ≡ listing bs
  in_fresh_buffers fresh h =
      let n = turns bs (begun bs fresh).running in
      (whole fresh (replicate n fresh) (roomy fresh h n) (omega (arith, length-replicate n fresh))).0
