use Rattle.std.proofs.Common.{rules, tests, sym, ◌∙◌}
use Rattle.std.proofs.lemmas.Iterator.{YieldsList-from_slice}
use Rattle.std.proofs.lemmas.Iterator.Search.{any_from_yields_List}
use Rattle.paper.specs.Refusals.{unclear}
use Rattle.state.proofs.Walks.{unclear_any}
use Rattle.state.proofs.requests.one_unclear.Goals as goal

pub returns : goal.returns
returns c =
    any_from_yields_List (λ r. unclear r.work) _ _ _ c.any.ensures.ran (YieldsList-from_slice c.args.requests.now cc) (λ x b q k. search (rules, tests))
    ∙ sym (unclear_any c.args.requests.now)
