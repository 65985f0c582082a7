-- The releases at slot 0 enter the state all zero.
use Rattle.std.proofs.Common.{arith, replicate}
use Rattle.state.proofs.Released.{zero_requests, fresh_is}
use Rattle.state.proofs.Walks.{stated_take, stated_none}
use Rattle.paper.specs.View.{no_request, tasks_of}
use Rattle.theory.specs.Limits.{many}
use Rattle.state.proofs.fresh.Goals as goal

pub entered-requests-requires : goal.entered-requests-requires
entered-requests-requires c =
    rw (c.all_zero-zero.ensures, zero_requests) (stated_take c.args.t.table.count (replicate 16 no_request) (stated_none 16))

pub returns : goal.returns
returns c =
    let t = c.args.t.table in
    let l = c.args.t.limits in
    rw c.entered-requests.ensures (fresh_is (tasks_of t) t.count c.all_zero-zero.result c.all_zero-zero.ensures (many l (omega arith)) l.few)
