-- What is kept of the file stands for the file in each question.
use Rattle.std.specs.Option.{UnwrapsOrElse}
use Rattle.std.specs.Prelude.{Option, Some, None, is_some, ltb}
use Rattle.std.proofs.Common.{◌≡◌, sym, ap, ◌∙◌, ℕ, ◌<◌, List, Bool, length, arith}
use Rattle.std.specs.Ordering.{is_lt, nat_cmp}
use Rattle.std.proofs.lemmas.Bool.Decides.{nat_tests}
use borrow.Author.Tests.{eq-eqb, ne_eqb, lt-ltb, le-ltb, le-leb, lt-leb}
use Rattle.paper.specs.declared.Slot.{Slot}
use Rattle.paper.specs.declared.Arrival.{Arrival}
use Rattle.paper.specs.Fields.{File, last_slot, arrival_in}
use Rattle.fields.specs.declared.Seen.{Seen}
use Rattle.fields.specs.Seen.{seen_of}
use Rattle.fields.proofs.Judged as laws
use Rattle.fields.proofs.Kept as kept
use Rattle.fields.proofs.Seen.add.Goals as goal
use Rattle.fields.proofs.Seen.add.Goals.{then-self-eq0-via-then-self-eq0, then-self-eq0-via-else-self-eq0+then-lt}

-- whether an arrival was read
module _ {s : Seen} (f : File) (e : s ≡ seen_of f) where
  arrived : {b : Bool} → b ≡ is_some s.last → ltb 0 (length f.arrivals) ≡ b
  arrived r = sym (r ∙ ap (λ (x : Seen). is_some x.last) e ∙ kept.arrived f.arrivals)

-- the slot of the last arrival, or the first slot
last_or : (o : Option Slot) (r : Slot) → UnwrapsOrElse o (λ s. s.0 ≡ 0) r → r.0 ≡ kept.slot_of o
last_or None r p = p
last_or (Some s) r p = rw p

is_ltb : (a b : ℕ) → is_lt (nat_cmp a b) ≡ ltb a b
is_ltb a b = grind (arith, nat_tests)

-- whether the slots fall
falls : {s : Seen} (f : File) → s ≡ seen_of f → (bs : List ℕ) (a : Arrival) → a ≡ arrival_in bs → (r : Slot) → r.0 ≡ kept.slot_of s.last
    → {b : Bool} → b ≡ is_lt (nat_cmp a.slot.0 r.0) → ltb (arrival_in bs).slot.0 (last_slot 0 f.arrivals) ≡ b
falls f e bs a is r l {b} t =
    let last : r.0 ≡ last_slot 0 f.arrivals = l ∙ ap (λ (x : Seen). kept.slot_of x.last) e ∙ kept.last_is f.arrivals in
    sym (t ∙ is_ltb a.slot.0 r.0 ∙ ap (λ (x : Arrival). ltb x.slot.0 r.0) is ∙ ap (λ (n : ℕ). ltb (arrival_in bs).slot.0 n) last)

pub returns-then-is_some : goal.returns-then-is_some
returns-then-is_some c f e bs b =
    let is = rw c.in-Task.is at b in
    laws.task_late f c.args.at bs is.0 (arrived f e c.is_some.ensures ∙ c.if-is_some.true)

pub returns-then-self-ge-MOST_TASKS : goal.returns-then-self-ge-MOST_TASKS
returns-then-self-ge-MOST_TASKS c f e bs b =
    let is = rw c.in-Task.is at b in
    laws.task_many f c.args.at bs is.0 (arrived f e c.is_some.ensures ∙ c.if-is_some.false) (le-leb 16 (length f.tasks) (omega (arith, kept.count_is f e)))

pub returns-else-self-ge-MOST_TASKS : goal.returns-else-self-ge-MOST_TASKS
returns-else-self-ge-MOST_TASKS c f e bs b =
    let is = rw c.in-Task.is at b in
    let few : length f.tasks < 16 = omega (arith, kept.count_is f e) in (
      laws.task_good f c.args.at bs is.0 (arrived f e c.is_some.ensures ∙ c.if-is_some.false) (lt-leb 16 (length f.tasks) few),
      rw (e, is.1) (kept.field_task f bs is.0 few),
    )

pub returns-then-self-eq0 : goal.returns-then-self-eq0
returns-then-self-eq0 c f e bs b =
    let is = rw c.in-Arrival.is at b in
    elim c.then-self-eq0.branch [
      | then-self-eq0-via-then-self-eq0 w ↦ laws.too_early f c.args.at bs (λ t. omega (arith, is.0, t)) (eq-eqb (length f.tasks) 0 (omega (arith, kept.count_is f e)))
      | then-self-eq0-via-else-self-eq0+then-lt w ↦
          laws.slot_falls f c.args.at bs is.0 (ne_eqb (length f.tasks) 0 (λ z. w.if-self-eq0.false (kept.count_is f e ∙ z)))
          (falls f e bs c.in-Arrival.arrival is.1 w.unwrap_or_default.result (last_or c.args.self.now.last w.unwrap_or_default.result w.unwrap_or_default.ensures) w.lt.ensures ∙ w.if-lt.true)
    ]

pub returns-else-lt : goal.returns-else-lt
returns-else-lt c f e bs b =
    let is = rw c.in-Arrival.is at b in (
      laws.arrival_good f c.args.at bs is.0 (ne_eqb (length f.tasks) 0 (λ z. c.if-self-eq0.false (kept.count_is f e ∙ z)))
          (falls f e bs c.in-Arrival.arrival is.1 c.unwrap_or_default.result (last_or c.args.self.now.last c.unwrap_or_default.result c.unwrap_or_default.ensures) c.lt.ensures ∙ c.if-lt.false),
      rw (e, is.1) (kept.field_arrival f bs is.0),
    )

pub returns-then-self-eq0-2 : goal.returns-then-self-eq0-2
returns-then-self-eq0-2 c f e bs b =
    let is = rw c.in-Slots.is at b in
    laws.too_early f c.args.at bs (λ t. omega (arith, is.0, t)) (eq-eqb (length f.tasks) 0 (omega (arith, kept.count_is f e)))

pub returns-then-slots-gt-LONGEST_RUN : goal.returns-then-slots-gt-LONGEST_RUN
returns-then-slots-gt-LONGEST_RUN c f e bs b =
    let is = rw c.in-Slots.is at b in
    laws.run_long f c.args.at bs is.0 (ne_eqb (length f.tasks) 0 (λ z. c.if-self-eq0-2.false (kept.count_is f e ∙ z))) (lt-ltb 100000 _ (omega (arith, is.1)))

pub returns-else-slots-gt-LONGEST_RUN : goal.returns-else-slots-gt-LONGEST_RUN
returns-else-slots-gt-LONGEST_RUN c f e bs b =
    let is = rw c.in-Slots.is at b in (
      laws.slots_good f c.args.at bs is.0 (ne_eqb (length f.tasks) 0 (λ z. c.if-self-eq0-2.false (kept.count_is f e ∙ z))) (le-ltb 100000 _ (omega (arith, is.1))),
      rw (e, is.1) (kept.field_slots f bs is.0),
    )
