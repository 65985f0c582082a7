-- The tasks that are kept, and a clear place for each that is not there.
use Rattle.std.proofs.Common.{◌≡◌, ℕ, ◌+◌, ◌-◌, ◌≤◌, ◌<◌, List, ◌++◌, length, take, drop, replicate, min, sym, ap, ◌∙◌, arith}
use Rattle.std.proofs.lemmas.List.{take-append-le, drop-replicate, take-replicate}
use Rattle.std.proofs.lemmas.Bool.{cases_lt}
use Rattle.std.proofs.Math.Logic.{⊎_elim}
use Rattle.std.proofs.Math.Seq.{take-append-add, take-length}
use mathlib.Core.List.{append-nil}
use Rattle.paper.specs.declared.Task.{Task}
use Rattle.paper.specs.View.{padded, no_task, table_of}
use Rattle.telling.proofs.tables.table_of.Goals as goal

module _ {A : Type 0} (a : A) (ys : List A) (n k : ℕ) (e : k ≡ min (length ys) n) where
  few : length ys ≤ n → take k ys ++ drop k (replicate n a) ≡ padded n a ys
  few h =
      let all : k ≡ length ys = omega arith in
      let whole : n ≡ length ys + (n - length ys) = omega arith in
      rw (all, take-length ys, drop-replicate (length ys) n a)
      (sym (ap (λ (m : ℕ). take m (ys ++ replicate n a)) whole ∙ take-append-add ys (replicate n a) (n - length ys)
      ∙ ap (λ (zs : List A). ys ++ zs) (take-replicate (n - length ys) n a (omega arith))))

  many : n < length ys → take k ys ++ drop k (replicate n a) ≡ padded n a ys
  many h =
      let front : k ≡ n = omega arith in
      let none : n - n ≡ 0 = omega arith in
      rw (front, drop-replicate n n a, none, append-nil (take n ys), take-append-le n ys (replicate n a) (omega arith))

  kept : take k ys ++ drop k (replicate n a) ≡ padded n a ys
  kept = ⊎_elim many few (cases_lt n (length ys))

clear : (t : Task) → (t.work ≡ 0) × ((t.deadline ≡ 0) × (t.period ≡ 0)) → t ≡ no_task
clear t e =
    let P : Task → Type 0 = λ u. u ≡ no_task in
    let is : P (record { work = t.work; deadline = t.deadline; period = t.period }) = rw (e.0, e.1.0, e.1.1) in
    is

pub returns : goal.returns
unfolding table_of
returns c =
    let ts = c.args.ts.now in
    let all : c.min-kept.result ≡ min (length ts) 16 = omega arith in
    ap (λ (l : List Task). record { tasks = l; count = length ts })
    (rw (c.copy_from_slice.ensures.after, clear _ c.default-tasks.ensures) (kept no_task ts 16 c.min-kept.result all))
