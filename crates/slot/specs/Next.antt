-- "Then now rises, releases enter, and at a window's start A and I become 0": on the state in which the unit is done.
use Rattle.std.specs.Prelude.{ℕ, suc, ◌+◌, ◌%◌, ◌<◌, ◌≡◌, ◌++◌, take, drop}
use Rattle.paper.specs.declared.Table.{Table}
use Rattle.paper.specs.declared.State.{State}
use Rattle.paper.specs.declared.Who.{Who}
use Rattle.paper.specs.declared.SlotAnswer.{SlotAnswer}
use Rattle.paper.specs.Window.{window}
use Rattle.paper.specs.View.{request_lefts, requests_of, tasks_of}
use Rattle.paper.specs.Rule.{enter, job_unit, idle_unit, tally, ready_word}
use Rattle.paper.specs.Refusals.{H}
use Rattle.theory.specs.States.{AllStated}
use Rattle.rule.specs.Owner.{does_of}

unfoldable pub next_of : Table → Who → State → State
next_of t who u = record {
  now = record { 0 = suc u.now.0 };
  requests = requests_of (enter (tasks_of t) (suc u.now.0) (request_lefts (take t.count u.requests))) ++ drop t.count u.requests;
  jobs = u.jobs;
  waiting = u.waiting;
  given = tally (tasks_of t) (suc u.now.0) (u.given + job_unit (does_of who));
  idle = tally (tasks_of t) (suc u.now.0) (u.idle + idle_unit (does_of who));
}

-- the answer of a slot that goes to `who`, and leaves the state n: "for the new state with its releases"
abbrev pub answer_of : Table → Who → State → SlotAnswer
answer_of t who n = record {
  number = 0;
  place = 0;
  who = who;
  ready = ready_word (request_lefts (take t.count n.requests));
  state = n;
}

-- what the step onward needs of u: the clock and the tallies may rise by one, no request is `Left 0`, and `at` is the next offset
pub record MayRise (t : Table) (at : ℕ) (u : State) : Type 0 where
  pub clock : u.now.0 < H
  pub given : u.given < 65535
  pub idle : u.idle < 65535
  pub stated : AllStated (take t.count u.requests)
  pub offset : at ≡ suc u.now.0 % window (tasks_of t)
