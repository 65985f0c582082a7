use mathlib.Core.Path.{◌≡◌}
use Prim.Native.Nat.{◌+◌}
use native.Mathlib.Omega.{arith}
use Rattle.std.proofs.lemmas.Result.{err_from_is_err_and}
use Rattle.paper.specs.Idle.{promise}
use Rattle.paper.specs.View.{view_of, tasks_of}
use Rattle.paper.specs.Refusals.{passed}
use Rattle.paper.specs.Refused.{Judges}
use Rattle.fit.proofs.Rules.{holds}
use Rattle.admit.proofs.Offers.{early, says_early, said_early, is_wanted, waiting_work, promise-is, said_late, pass_late}
use Rattle.admit.proofs.offer.Goals.{After-and, In_ok-and, After-promise_for-promise}
use Rattle.admit.proofs.offer.Goals as goal

judged : (c : After-and) → Judges (early c.args.w c.args.s c.args.v.now c.requires.on_ground c.args.work c.args.latest) c.and.result
judged c =
    rw c.and.ensures
    (says_early c.args.w c.args.s c.args.v.now c.requires.on_ground c.args.work c.args.latest c.nine.result c.before_promise.result c.nine.ensures c.before_promise.ensures)

pub returns-in_err-and : goal.returns-in_err-and
returns-in_err-and c =
    let j = rw c.in_err-and.was at (judged (goal.at.returns-in_err-and c).After-and) in
    let p = err_from_is_err_and c.from_residual.result c.from_residual.ensures.1 in
    rw (p.1, p.2) (said_early c.args.w c.args.s c.args.v.now c.requires.on_ground c.args.work c.args.latest c.in_err-and.field-0.0 j)

past : (c : In_ok-and) → early c.args.w c.args.s c.args.v.now c.requires.on_ground c.args.work c.args.latest ≡ passed
past c =
    let j = rw c.in_ok-and.was at (judged (goal.at.In_ok-and c).After-and) in
    j.0

pub overflow_add-need : goal.overflow_add-need
overflow_add-need c =
    omega (
      arith,
      waiting_work c.args.w c.args.s c.args.v.now c.requires.on_ground c.args.work c.args.latest c.work_left-waiting.result _ c.work_left-waiting.ensures c.waiting_jobs.ensures,
    )

pub promise_for-promise-requires-clause-le_idle : goal.promise_for-promise-requires-clause-le_idle
promise_for-promise-requires-clause-le_idle c =
    let e = past (goal.at.promise_for-promise-requires-clause-le_idle c).In_ok-and in
    let x = is_wanted c.args.w c.args.s c.args.v.now c.requires.on_ground c.args.work c.args.latest e in
    let n = waiting_work c.args.w c.args.s c.args.v.now c.requires.on_ground c.args.work c.args.latest c.work_left-waiting.result _ c.work_left-waiting.ensures c.waiting_jobs.ensures in
    (x.some_idle, record { some = omega (arith, x.some); most = omega (arith, x.most, n) })

least : (c : After-promise_for-promise)
    → c.promise_for-promise.result.0
    ≡ promise (tasks_of c.args.w.within.table) (view_of c.args.w.within.table.count c.args.s).lefts c.args.s.now.0 (c.work_left-waiting.result + c.args.work)
least c =
    let w = c.args.w in
    c.promise_for-promise.ensures (tasks_of w.within.table) (view_of w.within.table.count c.args.s).lefts (holds w c.args.s c.args.v.now c.requires.on_ground c.requires.d_value)

pub returns-in_err-after_promise : goal.returns-in_err-after_promise
returns-in_err-after_promise c =
    let at = goal.at.returns-in_err-after_promise c in
    let p = err_from_is_err_and c.from_residual-in_err-after_promise.result c.from_residual-in_err-after_promise.ensures.1 in
    rw (p.1, p.2)
    (said_late c.args.w c.args.s c.args.v.now c.requires.on_ground c.args.work c.args.latest (past at.In_ok-and) c.work_left-waiting.result c.promise_for-promise.result.0 _
    c.work_left-waiting.ensures c.waiting_jobs.ensures (least at.After-promise_for-promise) c.in_err-after_promise.field-0.0 c.in_err-after_promise.ensures)

pub returns : goal.returns
returns c =
    let at = goal.at.returns c in
    let e = past at.In_ok-and in
    let q = least at.After-promise_for-promise in
    let x = is_wanted c.args.w c.args.s c.args.v.now c.requires.on_ground c.args.work c.args.latest e in (
      pass_late c.args.w c.args.s c.args.v.now c.requires.on_ground c.args.work c.args.latest e c.work_left-waiting.result c.promise_for-promise.result.0 _ c.work_left-waiting.ensures
          c.waiting_jobs.ensures q c.in_ok-after_promise.ensures.0,
      record {
        promise_is = promise-is c.args.w c.args.s c.args.v.now c.requires.on_ground c.args.work c.args.latest e c.work_left-waiting.result c.promise_for-promise.result.0 _
            c.work_left-waiting.ensures c.waiting_jobs.ensures q;
        room = x.free;
      },
    )
