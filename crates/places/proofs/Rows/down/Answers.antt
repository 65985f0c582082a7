use Rattle.std.specs.Prelude.{◌≡◌, List, ◌++◌, ℕ, ◌<◌, ◌≤◌, length, take, drop, get_or, replicate}
use Rattle.std.proofs.Common.{sym, ap, ap₂, ◌∙◌, arith, add-one, drop_of_length-le, length-take-le, get_or-take, take_all}
use lib.ListN.{length-map}
use Rattle.theory.specs.Lasts.{lower, highest, lowered as loweredOf, passed_work, lowered-length, lowered-at, work_next}
use Rattle.places.proofs.RowLaws.{put_row, highest_next, step_stands}
use Rattle.places.proofs.Rows.down.Goals.{Start}
use Rattle.places.proofs.Rows.down.Goals as goal

-- how long the rows are
record Long (width : ℕ) (cs ps ls : List ℕ) : Type 0 where
  works-long : length (take width cs) ≡ width
  periods-long : length (take width ps) ≡ width
  lasts-long : length (take width ls) ≡ width
  new-long : (k : ℕ) → length (loweredOf k (take width ps) (take width ls)) ≡ width

long : (c : Start) → Long c.args.self.now.width c.args.self.now.works c.args.self.now.periods c.args.s.lasts
long c =
    let r = c.args.self.now in
    let a = length-map r.works (λ (v : ℕ). v) in
    let b = length-map r.periods (λ (v : ℕ). v) in
    let e = length-map c.args.s.lasts (λ (v : ℕ). v) in
    let few : r.width ≤ 16 = r.within in
    let ls : length (take r.width c.args.s.lasts) ≡ r.width = length-take-le r.width c.args.s.lasts (omega arith) in
    let ps : length (take r.width r.periods) ≡ r.width = length-take-le r.width r.periods (omega arith) in
    record {
      works-long = length-take-le r.width r.works (omega arith);
      periods-long = ps;
      lasts-long = ls;
      new-long = λ k. lowered-length k (take r.width r.periods) (take r.width c.args.s.lasts) (omega arith) ∙ ls;
    }

pub loop-i-preserved : goal.loop-i-preserved
loop-i-preserved c =
    let l = c.loop-i in
    let r = c.args.self.now in
    let s = c.args.s in
    let i = l.i in
    let h : i < r.width = omega arith in
    let n = long (goal.at.loop-i-preserved c).Start in
    let cs = take r.width r.works in
    let ps = take r.width r.periods in
    let ls = take r.width s.lasts in
    let new = loweredOf s.place ps ls in
    let many : length new ≡ r.width = n.new-long s.place in
    let own : get_or ls i 0 ≡ get_or s.lasts i 0 = get_or-take r.width s.lasts i 0 h in
    let new_is : get_or new i 0 ≡ lower s.place (get_or r.periods i 0) (get_or s.lasts i 0)
    = lowered-at s.place ps ls i (omega (arith, n.periods-long)) (omega (arith, n.lasts-long))
    ∙ ap₂ (λ (p q : ℕ). lower s.place p q) (get_or-take r.width r.periods i 0 h) own in
    let e : c.lowered-last.result ≡ get_or new i 0 = c.lowered-last.ensures ∙ sym new_is in
    let more = rw (sym (add-one i)) at (work_next s.place cs ls i (omega (arith, n.works-long)) (omega (arith, n.lasts-long))) in
    record {
      lasts_are = rw l.invariant.lasts_are (put_row new i _ (omega (arith, many)) (omega (arith, many, r.within)) e);
      above_is = omega (arith, l.invariant.above_is, rw (own, get_or-take r.width r.works i 0 h) at more, c.passed_work-above.ensures.0);
      place_is = omega (arith, c.max-place.ensures, e, highest_next new i (omega (arith, many)), l.invariant.place_is);
      above_most = omega (arith, l.invariant.above_most, c.passed_work-above.ensures.1);
    }

pub returns : goal.returns
unfolding highest passed_work
returns c =
    let l = c.loop-i in
    let r = c.args.self.now in
    let s = c.args.s in
    let n = long (goal.at.returns c).Start in
    let cs = take r.width r.works in
    let new = loweredOf s.place (take r.width r.periods) (take r.width s.lasts) in
    let end : l.i ≡ r.width = omega arith in
    let none-new = drop_of_length-le new {i = l.i} (omega (arith, n.new-long s.place)) in
    let none-cs = drop_of_length-le cs {i = l.i} (omega (arith, n.works-long)) in
    λ t W u rows stands pos.
    step_stands t W u r.width r.works r.periods s rows r.within stands pos _ (record {
      lasts_are = rw (l.invariant.lasts_are, end) (ap (λ (x : List ℕ). x ++ drop r.width (replicate 16 0)) (take_all r.width new (omega (arith, n.new-long s.place))));
      above_is = omega (arith, rw none-cs at l.invariant.above_is);
      place_is = omega (arith, rw none-new at l.invariant.place_is);
    })
