-- Vectors that are those of a table and of its requests at a time, and lent ones that begin with those.
use Rattle.std.specs.Prelude.{ℕ, ◌%◌, ◌≡◌, List, length, take}
use Rattle.std.proofs.Common.{ap}
use Rattle.std.proofs.Math.Seq.{take-length}
use Rattle.paper.specs.declared.Task.{Task}
use Rattle.paper.specs.Window.{window}
use Rattle.paper.specs.Places.{K}
use Rattle.paper.specs.Vectors.{D, Y}
use Rattle.theory.specs.Times.{D-length, Y-length}
use Rattle.moving.specs.declared.Made.{Made}
use Rattle.moving.specs.Vectors.{made_of}
use Rattle.promise.specs.declared.Vectors.{Vectors}

-- of the tasks ts, with ls left of their requests at the time now
pub record Holds (ts : List Task) (ls : List ℕ) (now : ℕ) (v : Vectors) : Type 0 where
  pub numbers : v.made ≡ made_of ts ls now
  pub in_k : v.k.now ≡ K ts
  pub in_d : v.d.now ≡ D ts
  pub in_y : v.y.now ≡ Y ts ls (now % window ts)

-- the same in front of lent vectors, which may be longer
pub record HoldsInFront (ts : List Task) (ls : List ℕ) (now : ℕ) (v : Vectors) : Type 0 where
  pub numbers : v.made ≡ made_of ts ls now
  pub in_k : take v.made.places v.k.now ≡ K ts
  pub in_d : take v.made.places v.d.now ≡ D ts
  pub in_y : take v.made.places v.y.now ≡ Y ts ls (now % window ts)

-- Vectors that are those of a table stand in front of themselves.
pub held_in_front : (ts : List Task) (ls : List ℕ) (now : ℕ) (v : Vectors) → Holds ts ls now v → HoldsInFront ts ls now v
held_in_front ts ls now v h =
    let places : v.made.places ≡ length (K ts) = ap (λ (m : Made). m.places) h.numbers in
    record {
      numbers = h.numbers;
      in_k = rw (h.in_k, places) (take-length (K ts));
      in_d = rw (h.in_d, places, ← D-length ts) (take-length (D ts));
      in_y = rw (h.in_y, places, ← Y-length ts (now % window ts) ls) (take-length (Y ts ls (now % window ts)));
    }
