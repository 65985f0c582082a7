-- A part is a line and the part after it for as long as it goes on; each line leaves fewer, so it ends. What a part writes lies within
-- its buffer, and with what is left it is what was left.
use Prim.Native.Nat.{ℕ, zero, suc, ◌+◌, ◌≤◌, ◌<◌}
use Rattle.std.specs.Prelude.{◌≡◌, Bool, true, false, ◌&&◌, ◌⊎◌, List, ◌++◌, ltb, length}
use Rattle.std.proofs.Math.Path.{refl, sym}
use Rattle.std.proofs.Common.{◌∙◌, append_assoc, arith, ltb-true, lt-ltb, le-leb, le-ltb}
use Rattle.std.proofs.Math.Bool.{and-false}
use Rattle.std.proofs.Math.Logic.{inl, inr}
use Rattle.std.proofs.lemmas.Bool.{lt-leb}
use Rattle.listing.specs.declared.Running.{Running}
use Rattle.decimal.specs.Written.{wrote_shown, wrote_inside}
use Rattle.listing.specs.Run.{Outcome, shown, turned, goes_on, lines_up_to, turns, lines, afresh, part}
use Rattle.listing.specs.Turns.{rest, turned_on}

left_of_lem : (a b : Bool) → a && b ≡ true → a ≡ true
left_of_lem true b e = refl
left_of_lem false b e = e

pub one_way : (b : Bool) → (b ≡ true) ⊎ (b ≡ false)
one_way true = inl refl
one_way false = inr refl

module _ (o : Outcome) where
  -- a line may follow; the run is over; the buffer is nearly full
  pub goes : o.running.now < o.running.end → o.running.written + 80 ≤ length o.out → goes_on o ≡ true
  goes h k = rw (lt-ltb o.running.now o.running.end h, le-leb (o.running.written + 80) (length o.out) k)

  pub is_over : o.running.end ≤ o.running.now → goes_on o ≡ false
  is_over h = rw (le-ltb o.running.now o.running.end h)

  pub is_full : length o.out < o.running.written + 80 → goes_on o ≡ false
  is_full h = rw (lt-leb (o.running.written + 80) (length o.out) h) (and-false (ltb o.running.now o.running.end))

-- a run that goes on is not over
pub not_over : (o : Outcome) → goes_on o ≡ true → o.running.now < o.running.end
not_over o e = ltb-true _ _ (left_of_lem (ltb o.running.now o.running.end) _ e)

-- what was written lies within the buffer
abbrev pub Inside : Outcome → Type 0
Inside o = o.running.written ≤ length o.out

module _ (bs : List ℕ) where
  abbrev next : Outcome → Outcome
  next o = turned bs o.running o.out

  stopped : (n : ℕ) (o : Outcome) → goes_on o ≡ false → lines_up_to n bs o ≡ o
  unfolding lines_up_to
  stopped zero o e = refl
  stopped (suc n) o e = rw e

  next-fewer : (o : Outcome) → goes_on o ≡ true → turns bs (next o).running < turns bs o.running
  next-fewer o e = (turned_on bs o.running o.out (not_over o e)).fewer

  -- no line is left, so none may follow
  done : (o : Outcome) → turns bs o.running ≡ 0 → goes_on o ≡ false
  done o h = elim (one_way (goes_on o)) [ inl e ↦ absurd (omega (arith, next-fewer o e)) | inr e ↦ e ]

  -- more lines than are left change nothing
  enough : (n m : ℕ) (o : Outcome) → turns bs o.running ≤ n → turns bs o.running ≤ m → lines_up_to n bs o ≡ lines_up_to m bs o
  unfolding lines_up_to
  enough zero m o h k = sym (stopped m o (done o (omega arith)))
  enough (suc n) zero o h k = stopped (suc n) o (done o (omega arith))
  enough (suc n) (suc m) o h k =
      elim (one_way (goes_on o)) [
        | inl e ↦
            let f = next-fewer o e in
            rw e (enough n m (next o) (omega arith) (omega arith))
        | inr e ↦ rw e
      ]

  -- the lines of a run that does not go on
  pub lines_none : (o : Outcome) → goes_on o ≡ false → lines bs o ≡ o
  unfolding lines
  lines_none o e = stopped (turns bs o.running) o e

  lines_more : (o : Outcome) → goes_on o ≡ true → lines bs o ≡ lines bs (next o)
  unfolding lines lines_up_to
  lines_more o e =
      let f = next-fewer o e in
      let one : lines_up_to (suc (turns bs o.running)) bs o ≡ lines_up_to (turns bs o.running) bs (next o) = rw e in
      enough (turns bs o.running) (suc (turns bs o.running)) o (omega arith) (omega arith)
      ∙ one
      ∙ enough (turns bs o.running) (turns bs (next o).running) (next o) (omega arith) (omega arith)

  -- q is what one line more leaves of a run that goes on: fewer lines are left, all that was written lies within the buffer, and
  -- the lines are those from there on
  module _ (o q : Outcome) (e : goes_on o ≡ true) (is : q ≡ next o) where
    pub line-fewer : turns bs q.running < turns bs o.running
    line-fewer = rw is (next-fewer o e)

    pub line-inside : Inside o → Inside q
    line-inside h = rw is (wrote_inside h (turned_on bs o.running o.out (not_over o e)).wrote)

    pub line-more : lines bs o ≡ lines bs q
    line-more = rw is (lines_more o e)

  -- ---- what a part keeps

  -- what stands in the buffer, and what is left
  abbrev pub told : Outcome → List ℕ
  told o = shown o ++ rest bs o.running

  -- what every line keeps, a run of lines keeps
  keeps : (P : Outcome → Type 0) → ((o : Outcome) → goes_on o ≡ true → P o → P (next o))
      → (n : ℕ) (o : Outcome) → P o → P (lines_up_to n bs o)
  unfolding lines_up_to
  keeps P step zero o h = h
  keeps P step (suc n) o h =
      elim (one_way (goes_on o)) [
        | inl e ↦ rw e (keeps P step n (next o) (step o e h))
        | inr e ↦ rw e h
      ]

  -- of the lines after o: they lie within the buffer, with what is left they are what was told, and no more are left than were
  abbrev Kept : Outcome → Outcome → Type 0
  Kept o q = Inside q × (told q ≡ told o) × (turns bs q.running ≤ turns bs o.running)

  line_kept : (o p : Outcome) → goes_on p ≡ true → Kept o p → Kept o (next p)
  line_kept o p e k =
      let q = next p in
      let t = turned_on bs p.running p.out (not_over p e) in
      let same : told q ≡ told p = rw (wrote_shown k.0 t.wrote, t.left) (append_assoc (shown p) t.line (rest bs q.running)) in
      (line-inside p q e refl k.0, same ∙ k.1, omega (arith, t.fewer, k.2))

  lines-kept : (o : Outcome) → Inside o → Kept o (lines bs o)
  unfolding lines
  lines-kept o h = keeps (Kept o) (line_kept o) (turns bs o.running) o (h, refl, omega arith)

  module _ (r : Running) (out : List ℕ) where
    abbrev start : Outcome
    start = record { running = afresh r; out = out }

    -- what a part writes lies within its buffer
    pub part-inside : Inside (part bs r out)
    unfolding part
    part-inside = (lines-kept start (omega arith)).0

    -- and with what is left it is what was left
    pub part-rest : told (part bs r out) ≡ rest bs r
    unfolding part rest
    part-rest = (lines-kept start (omega arith)).1

    -- a part writes at least a line, where there is one to write and room for it
    pub part-fewer : r.now < r.end → 80 ≤ length out → turns bs (part bs r out).running < turns bs r
    unfolding part turns
    part-fewer h k =
        let e = goes start h (omega arith) in
        let q = turned bs (afresh r) out in
        let kept = (lines-kept q (line-inside start q e refl (omega arith))).2 in
        rw (line-more start q e refl) (omega (arith, kept, line-fewer start q e refl))
