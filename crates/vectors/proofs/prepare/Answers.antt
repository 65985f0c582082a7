use mathlib.Core.Path.{◌≡◌, ap, sym, ◌∙◌}
use Prim.Native.Nat.{min}
use native.Mathlib.Omega.{arith}
use lib.ListN.{length}
use Rattle.std.proofs.lemmas.Result.{err_from_is_err_and}
use Rattle.moving.specs.declared.Made.{Made}
use Rattle.vectors.specs.Eight.{eight_lent}
use Rattle.vectors.proofs.prepare.Goals.{After-min-2}
use Rattle.vectors.proofs.prepare.Goals as goal

short : (c : After-min-2) → c.min-2.result ≡ min (length c.args.k.now) (min (length c.args.d.now) (length c.args.y.now))
short c = c.min-2.ensures ∙ ap (min (length c.args.k.now)) c.min.ensures

pub returns-in_err-judged-clause-judged : goal.returns-in_err-judged-clause-judged
returns-in_err-judged-clause-judged c =
    let a = c.args in
    let p = err_from_is_err_and c.from_residual.result c.from_residual.ensures.1 in
    let lent = eight_lent a.t a.s a.k.now a.d.now a.y.now _ (short (goal.at.returns-in_err-judged-clause-judged c).After-min-2) in
    rw (p.1, p.2) (sym lent ∙ c.in_err-judged.ensures)

pub returns-clause-judged : goal.returns-clause-judged
returns-clause-judged c =
    let a = c.args in
    let g = c.in_ok-judged.ensures.1 in
    let lent = eight_lent a.t a.s a.k.now a.d.now a.y.now _ (short (goal.at.returns-clause-judged c).After-min-2) in
    let f = rw g.table_is at c.make-made.ensures in (
      sym lent ∙ c.in_ok-judged.ensures.0,
      record {
        table_is = g.table_is;
        few = omega (arith, g.few, ap (λ (m : Made). m.places) f.numbers);
        is_shaped = g.is_shaped;
        on_time = g.on_time;
        fills = f;
      },
    )
