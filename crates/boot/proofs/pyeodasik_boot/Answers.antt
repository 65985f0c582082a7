-- The verdict and the table of the fields as they were read are judged.
use mathlib.Core.Path.{◌∙◌}
use Rattle.boot.proofs.Boots.{of_fields}
use Rattle.boot.proofs.pyeodasik_boot.Goals as goal

pub returns : goal.returns
returns c = c.judge.ensures ∙ of_fields _ _ c.read_fields-read.ensures
