-- All places of the rows, from the first on: what is passed at the place, and the highest of what is left.
use Rattle.std.specs.Prelude.{◌≡◌, ◌++◌, ◌+◌, ◌*◌, ◌≤◌, take, drop, replicate, max}
use Rattle.theory.specs.Lasts.{highest, lowered as loweredOf, passed_work}
use Rattle.places.proofs.Rows.down.Given as goal

abbrev pub invariant-loop-i : goal.invariant-loop-i
invariant-loop-i l =
    let n = l.self.width in
    let cs = take n l.self.works in
    let ls = take n l.s.lasts in
    let new = loweredOf l.s.place (take n l.self.periods) ls in
    record {
      lasts_are : l.lasts ≡ take l.i new ++ drop l.i (replicate 16 0);
      above_is : l.above + passed_work l.s.place (drop l.i cs) (drop l.i ls) ≡ l.s.above + passed_work l.s.place cs ls;
      place_is : max l.place (highest (drop l.i new)) ≡ highest new;
      above_most : l.above ≤ l.s.above + l.i * 65535;
    }
