use mathlib.Core.Path.{sym, ◌∙◌}
use Rattle.paper.specs.View.{view_of, tasks_of}
use Rattle.fit.proofs.Rules.{left_small, holds, lefts_in, work_broken, tallies_broken, promise-broken, none_broken}
use Rattle.fit.proofs.nine.Goals.{then-is_some-via-then-is_some, then-is_some-via-else-is_some+then-wrong_tallies, then-is_some-via-else-is_some+else-wrong_tallies+then-is_some-2}
use Rattle.fit.proofs.nine.Goals as goal

pub wrong_tallies-requires : goal.wrong_tallies-requires
wrong_tallies-requires c = left_small c.args.w c.args.s c.args.v.now c.requires.on_ground c.requires.d_value

pub first_wrong-requires-clause-n_bound : goal.first_wrong-requires-clause-n_bound
first_wrong-requires-clause-n_bound c =
    lefts_in c.args.w c.args.s c.args.v.now c.requires.on_ground c.requires.d_value c.waiting_jobs.result.now c.waiting_jobs.ensures

pub returns-then-is_some : goal.returns-then-is_some
returns-then-is_some c =
    let w = c.args.w in
    let s = c.args.s in
    let v = c.args.v.now in
    let g = c.requires.on_ground in
    let d = c.requires.d_value in
    let o = c.overfull in
    elim c.then-is_some.branch [
      | then-is_some-via-then-is_some x ↦ work_broken w s v g d o.result o.ensures (sym c.is_some.ensures ∙ x.if-is_some.true)
      | then-is_some-via-else-is_some+then-wrong_tallies x ↦
          tallies_broken w s v g d o.result o.ensures (sym c.is_some.ensures ∙ x.if-is_some.false) x.wrong_tallies.result x.wrong_tallies.ensures x.if-wrong_tallies.true
      | then-is_some-via-else-is_some+else-wrong_tallies+then-is_some-2 x ↦
          promise-broken w s v g d o.result o.ensures (sym c.is_some.ensures ∙ x.if-is_some.false) x.wrong_tallies.result x.wrong_tallies.ensures x.if-wrong_tallies.false
          x.first_wrong.result x.waiting_jobs.result.now x.waiting_jobs.ensures
          (x.first_wrong.ensures (tasks_of w.within.table) (view_of w.within.table.count s).lefts (holds w s v g d))
          (sym x.is_some-else-wrong_tallies.ensures ∙ x.if-is_some-2.true)
    ]

pub returns : goal.returns
returns c =
    let w = c.args.w in
    let s = c.args.s in
    let v = c.args.v.now in
    let g = c.requires.on_ground in
    let d = c.requires.d_value in
    let o = c.overfull in (
      none_broken w s v g d o.result o.ensures (sym c.is_some.ensures ∙ c.if-is_some.false) c.wrong_tallies.result c.wrong_tallies.ensures c.if-wrong_tallies.false
          c.first_wrong.result c.waiting_jobs.result.now c.waiting_jobs.ensures
          (c.first_wrong.ensures (tasks_of w.within.table) (view_of w.within.table.count s).lefts (holds w s v g d))
          (sym c.is_some-else-wrong_tallies.ensures ∙ c.if-is_some-2.false),
      tt,
    )
