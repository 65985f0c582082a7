-- The numbers so far were told, each after a blank.
use Rattle.std.proofs.Common.{◌+◌, ◌*◌, ◌≤◌, take}
use Rattle.decimal.specs.Told.{Told}
use Rattle.show.specs.Numbers.{after_blanks}
use Rattle.show.proofs.vector_line.Given as goal

abbrev pub invariant-loop-n : goal.invariant-loop-n
invariant-loop-n l = record {
  told : Told l.initial.text (after_blanks (take l.n-index l.v)) l.text;
  most : l.text.at ≤ l.initial.text.at + 21 * l.n-index;
}
