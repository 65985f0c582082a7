-- The first place, if there is one.
use Rattle.std.proofs.Common.{◌∙◌}
use Rattle.rule.proofs.Firsts.{oldest_is}
use Rattle.rule.proofs.oldest_of.Goals as goal

pub returns : goal.returns
returns c = c.copied.ensures ∙ c.first.ensures.value ∙ oldest_is c.args.jobs.now
