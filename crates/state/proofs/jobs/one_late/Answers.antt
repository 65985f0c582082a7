use Rattle.std.proofs.Common.{rules, tests, sym, ◌∙◌, leb}
use Rattle.std.proofs.lemmas.Iterator.{YieldsList-from_slice}
use Rattle.std.proofs.lemmas.Iterator.Search.{any_from_yields_List}
use Rattle.state.proofs.Walks.{late_any}
use Rattle.state.proofs.jobs.one_late.Goals as goal

pub returns : goal.returns
returns c =
    any_from_yields_List (λ j. leb j.promise.0 c.args.at.0) _ _ _ c.any.ensures.ran (YieldsList-from_slice c.args.jobs.now cc) (λ x b q k. search (rules, tests))
    ∙ sym (late_any c.args.jobs.now c.args.at.0)
