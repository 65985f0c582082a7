-- K and D, written from the last place down; the rest of the lent vectors stays.
use Rattle.table.proofs.Fill.{Filled}
use Rattle.table.proofs.fill_table.Given as goal

abbrev pub invariant-loop-i : goal.invariant-loop-i
invariant-loop-i l = Filled l.fn.j.checked.within.table l.window l.fn.j.places l.initial.k l.initial.d l.k l.d l.s l.sum l.i
