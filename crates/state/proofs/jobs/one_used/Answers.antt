use Rattle.std.proofs.Common.{rules, tests, sym, ◌∙◌, not, ◌||◌, eqb}
use Rattle.std.proofs.lemmas.Iterator.{YieldsList-from_slice}
use Rattle.std.proofs.lemmas.Iterator.Search.{any_from_yields_List}
use Rattle.state.proofs.Walks.{used_any}
use Rattle.state.proofs.jobs.one_used.Goals as goal

pub returns : goal.returns
returns c =
    any_from_yields_List (λ j. not (eqb j.left 0) || not (eqb j.promise.0 0)) _ _ _ c.any.ensures.ran (YieldsList-from_slice c.args.jobs.now cc) (λ x b q k. search (rules, tests))
    ∙ sym (used_any c.args.jobs.now)
