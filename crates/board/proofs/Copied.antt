-- The places after the first records of a lent run were copied: the run's, and a clear one for each that it lacks.
use Rattle.std.proofs.Common.{◌≡◌, ℕ, ◌-◌, ◌≤◌, ◌<◌, List, ◌++◌, length, take, drop, replicate, min, sym, arith}
use Rattle.std.proofs.lemmas.Bool.{cases_lt}
use Rattle.std.proofs.lemmas.List.{take-append-le, drop-replicate}
use Rattle.std.proofs.Math.Logic.{⊎_elim}
use Rattle.std.proofs.Math.Seq.{take-length}
use mathlib.Core.List.{append-nil}
use Rattle.paper.specs.declared.Task.{Task}
use Rattle.paper.specs.View.{padded, no_task}
use Rattle.theory.specs.Padded.{padded_is}

-- a clear record
pub clear : (t : Task) → (t.work ≡ 0) × ((t.deadline ≡ 0) × (t.period ≡ 0)) → t ≡ no_task
clear t e =
    let P : Task → Type 0 = λ u. u ≡ no_task in
    let is : P (record { work = t.work; deadline = t.deadline; period = t.period }) = rw (e.0, e.1.0, e.1.1) in
    is

module _ {A : Type 0} (a : A) (ys : List A) (n k : ℕ) (e : k ≡ min (length ys) n) where
  few : length ys ≤ n → take k ys ++ drop k (replicate n a) ≡ padded n a ys
  few h =
      let all : k ≡ length ys = omega arith in
      rw (all, take-length ys, drop-replicate (length ys) n a) (sym (padded_is a n ys h))

  many : n < length ys → take k ys ++ drop k (replicate n a) ≡ padded n a ys
  many h =
      let front : k ≡ n = omega arith in
      let none : n - n ≡ 0 = omega arith in
      rw (front, drop-replicate n n a, none, append-nil (take n ys), take-append-le n ys (replicate n a) (omega arith))

  pub copied : take k ys ++ drop k (replicate n a) ≡ padded n a ys
  copied = ⊎_elim many few (cases_lt n (length ys))
