-- A number's digits: those of its tenth, and then the last one. The measure is the number.
use Rattle.decimal.proofs.Text.+number.Given as goal

abbrev pub decreases-number : goal.decreases-number
decreases-number l = l.n
