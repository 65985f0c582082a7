-- Refusal 8, by what one walk over the requests tells; else the slot goes to its owner.
use Rattle.std.proofs.Common.{◌≡◌, ◌||◌, suc, ◌<◌, ◌%◌, ◌∙◌, arith, mod-lt}
use Rattle.paper.specs.View.{view_of, tasks_of}
use Rattle.paper.specs.Rule.{first}
use Rattle.paper.specs.Refusals.{overdue, overdue_next, refusal_8_slot}
use Rattle.theory.specs.Ready.{ready_pos}
use Rattle.theory.specs.DueBy.{due_by}
use Rattle.rule.specs.Owner.{found_of, oldest_of, owner_of}
use Rattle.slot.proofs.Steps.{eight, task_in_lem, first-now, who_can, may_rise, slot_done}
use Rattle.slot.proofs.run.Goals.{After-offset_of-v, After-earliest-first, After-owner-who, After-too_late, at-After-owner-who, at-After-too_late}
use Rattle.slot.proofs.run.Goals as goal

-- what the walk tells, of the state's view
found : (c : After-earliest-first)
    → let s = c.args.s in
    let t = c.args.w.within.table in
    let n = s.now.0 % c.args.w.window in
    c.earliest-first.result ≡ found_of (first (tasks_of t) (view_of t.count s).lefts n) (due_by (tasks_of t) (view_of t.count s).lefts n (suc n))
unfolding view_of
found c = c.earliest-first.ensures ∙ rw c.offset_of-v.ensures

-- refusal 8
late : (c : After-too_late)
    → let s = c.args.s in
    let t = c.args.w.within.table in
    c.too_late.result ≡ overdue (tasks_of t) (view_of t.count s) || overdue_next (tasks_of t) (view_of t.count s)
unfolding view_of
late c =
    let told = found (at-After-too_late c).After-earliest-first in
    c.too_late.ensures
    ∙ rw (c.offset_of-v.ensures, c.oldest_of-oldest.ensures, c.waiting_jobs.ensures) (eight c.args.w.ready c.requires.shape c.requires.s_bound c.earliest-first.result told)

-- who runs
who-owner : (c : After-owner-who)
    → let s = c.args.s in
    let t = c.args.w.within.table in
    c.owner-who.result ≡ owner_of (first (tasks_of t) (view_of t.count s).lefts (view_of t.count s).now) (oldest_of (view_of t.count s).jobs)
unfolding view_of
who-owner c =
    let told = found (at-After-owner-who c).After-earliest-first in
    c.owner-who.ensures
    ∙ rw (c.start_of-start.ensures, c.offset_of-v.ensures, c.oldest_of-oldest.ensures, c.waiting_jobs.ensures, first-now c.args.w.ready c.requires.shape c.requires.s_bound c.earliest-first.result told)

pub offset_of-v-requires : goal.offset_of-v-requires
offset_of-v-requires c = ready_pos c.args.w.ready

-- the offset lies in the window
short : (c : After-offset_of-v) → c.offset_of-v.result.0 < c.args.w.window
short c = omega (arith, c.offset_of-v.ensures, mod-lt c.args.s.now.0 (ready_pos c.args.w.ready))

pub earliest-first-requires : goal.earliest-first-requires
earliest-first-requires c =
    let less = short (goal.at.earliest-first-requires c).After-offset_of-v in
    let small = c.args.w.ready.short in
    omega arith

pub returns-then-too_late : goal.returns-then-too_late
unfolding refusal_8_slot
returns-then-too_late c =
    rw (← late (goal.at.returns-then-too_late c).After-too_late, c.if-too_late.true)

pub owner-who-requires-clause-task_bound : goal.owner-who-requires-clause-task_bound
owner-who-requires-clause-task_bound c =
    task_in_lem c.args.w.ready c.requires.shape c.requires.s_bound c.earliest-first.result (found (goal.at.owner-who-requires-clause-task_bound c).After-earliest-first)

pub next_offset-at-requires : goal.next_offset-at-requires
next_offset-at-requires c = short (goal.at.next_offset-at-requires c).After-offset_of-v

pub done-requires-clause-can_run : goal.done-requires-clause-can_run
done-requires-clause-can_run c =
    who_can c.args.w.ready c.requires.shape c.requires.s_bound c.owner-who.result (who-owner (goal.at.done-requires-clause-can_run c).After-owner-who)

pub done-requires-clause-may_rise : goal.done-requires-clause-may_rise
done-requires-clause-may_rise c =
    let who = who-owner (goal.at.done-requires-clause-may_rise c).After-owner-who in
    may_rise c.args.w.ready c.requires.shape c.requires.s_bound c.owner-who.result who c.next_offset-at.result.0 (rw c.offset_of-v.ensures at c.next_offset-at.ensures)

pub returns : goal.returns
unfolding refusal_8_slot
returns c =
    let who = who-owner (goal.at.returns c).After-owner-who in (
      rw (← late (goal.at.returns c).After-too_late, c.if-too_late.false),
      c.done.ensures ∙ slot_done c.args.w.ready c.requires.shape c.requires.s_bound c.owner-who.result who,
    )
