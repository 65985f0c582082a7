use Rattle.std.proofs.Common.{arith, ◌≡◌, ◌%◌}
use Rattle.decimal.specs.Decimal.{decimal-small, decimal-some, decimal-longer, decimal-more}
use Rattle.decimal.specs.Told.{told_more, room_after}
use Rattle.decimal.proofs.Text.+number.Goals.{then-n-ge10, else-n-ge10}
use Rattle.decimal.proofs.Text.+number.Goals as goal

pub number-requires : goal.number-requires
number-requires t c = (omega arith, omega (arith, c.requires, decimal-longer c.args.n c.if-n-ge10.true))

pub put-requires : goal.put-requires
put-requires t c = elim c.if-n-ge10.branch [
  | then-n-ge10 w ↦ rw w.self-is (room_after 1 (omega (arith, decimal-longer c.args.n w.if-n-ge10.true, c.requires)) w.number.ensures)
  | else-n-ge10 w ↦ rw w.self-is (omega (arith, decimal-some c.args.n, c.requires))
]

pub returns : goal.returns
returns t c =
    let p = rw c.digit.ensures at c.put.ensures in
    elim c.if-n-ge10.branch [
      | then-n-ge10 w ↦ rw (decimal-more c.args.n w.if-n-ge10.true) (told_more (omega (arith, decimal-longer c.args.n w.if-n-ge10.true, c.requires)) w.number.ensures (rw w.self-is at p))
      | else-n-ge10 w ↦
          let small : c.args.n % 10 ≡ c.args.n = omega arith in
          rw (decimal-small c.args.n w.if-n-ge10.false) (rw (w.self-is, small) at p)
    ]
