-- Refusals 1 to 6, in this order.
use Rattle.std.specs.Prelude.{◌≡◌, ℕ, ◌≤◌, length, Result, Ok, Err}
use Rattle.std.proofs.Common.{sym, arith}
use Rattle.std.proofs.lemmas.Result.{err_from_is_err_and}
use Rattle.paper.specs.declared.Table.{Table}
use Rattle.paper.specs.declared.Refusal.{Refusal}
use Rattle.paper.specs.declared.Refusal.TheVariants.{VectorTooShort, Overloaded}
use Rattle.paper.specs.Places.{K}
use Rattle.paper.specs.View.{tasks_of}
use Rattle.paper.specs.Refusals.{passed, refusal_4}
use Rattle.paper.specs.Calls.{first_given}
use Rattle.theory.specs.Said.{answered, passed_number}
use Rattle.places.specs.Counted.{AllCounted}
use Rattle.table.specs.declared.JudgedTable.{JudgedTable}
use Rattle.table.specs.Six.{up_to_six, JudgedSix, six_verdict, six_passed}
use Rattle.table.proofs.Outcome.{count_said, count_passed, said_3, said_4, said_5, said_6, none_said}
use Rattle.table.proofs.judge_table.Goals.{In_ok-count}
use Rattle.table.proofs.judge_table.Goals as goal

-- of the table that was asked
counted : (c : In_ok-count) → (refusal_4 (tasks_of c.args.t) ≡ passed) × AllCounted (tasks_of c.args.t) c.in_ok-count.count
counted c = count_passed _ _ c.in_ok-checked.ensures.says.1 c.few_places.result c.few_places.ensures _ c.in_ok-count.was

-- what a judgement says, with the verdict that it answers
told : (t : Table) (n : ℕ) (x : Result JudgedTable Refusal) → JudgedSix t n x
    → record { says : JudgedSix t n x; verdict : answered x ≡ first_given (up_to_six t n) }
told t n x s = record { says = s; verdict = sym (six_verdict t n x s) }

pub returns-in_err-checked : goal.returns-in_err-checked
returns-in_err-checked c =
    let a = c.args in
    let p = err_from_is_err_and c.from_residual.result c.from_residual.ensures.1 in
    let r = c.in_err-checked.field-0.0 in
    rw (p.1, p.2) (told a.t a.shortest (Err r) (said_3 a.t a.shortest r c.in_err-checked.ensures.says))

pub returns-in_err-count : goal.returns-in_err-count
returns-in_err-count c =
    let a = c.args in
    let e = c.in_ok-checked.ensures.says in
    let p = err_from_is_err_and c.from_residual-in_err-count.result c.from_residual-in_err-count.ensures.1 in
    let r = c.in_err-count.field-0.0 in
    rw (p.1, p.2)
    (told a.t a.shortest (Err r) (said_4 a.t a.shortest e.0 r (count_said _ _ e.1 c.few_places.result c.few_places.ensures _ c.in_err-count.was)))

pub returns-then-shortest-count : goal.returns-then-shortest-count
returns-then-shortest-count c =
    let a = c.args in
    let k = counted (goal.at.returns-then-shortest-count c).In_ok-count in
    told a.t a.shortest (Err VectorTooShort)
    (said_5 a.t a.shortest c.in_ok-checked.ensures.says.0 k.0 (omega (arith, k.1.places_are, c.if-shortest-count.true)))

pub returns-in-Some : goal.returns-in-Some
returns-in-Some c =
    let a = c.args in
    let k = counted (goal.at.returns-in-Some c).In_ok-count in
    told a.t a.shortest (Err (Overloaded c.in-Some.time))
    (said_6 a.t a.shortest c.in_ok-checked.ensures.says.0 k.0 (omega (arith, k.1.places_are, c.if-shortest-count.false)) c.in-Some.time (rw c.in-Some.is at k.1.over_is))

pub returns-in-None : goal.returns-in-None
returns-in-None c =
    let a = c.args in
    let e = c.in_ok-checked.ensures.says in
    let k = counted (goal.at.returns-in-None c).In_ok-count in
    let room : length (K (tasks_of a.t)) ≤ a.shortest = omega (arith, k.1.places_are, c.if-shortest-count.false) in
    let v = none_said a.t a.shortest e.0 k.0 room (rw c.in-None.is at k.1.over_is) in
    let j : JudgedTable = record { checked = c.in_ok-checked.checked; places = c.in_ok-count.count.places } in
    told a.t a.shortest (Ok j) (v, six_passed a.t a.shortest j e.1 k.1.places_are (passed_number v))
