use Rattle.std.proofs.lemmas.Result.{err_from_is_err_and}
use Rattle.admit.proofs.Fronts.{front_k, front_d, front_y, lent_in_front}
use Rattle.admit.proofs.Outcome.{said_eight, says_later}
use Rattle.admit.proofs.promised.Goals as goal

pub returns-in_err-p-clause-judged : goal.returns-in_err-p-clause-judged
returns-in_err-p-clause-judged c =
    let a = c.args in
    let p = err_from_is_err_and c.from_residual.result c.from_residual.ensures.1 in
    rw (p.1, p.2) (said_eight a.t a.s a.work a.latest a.k.now a.d.now a.y.now c.in_err-p.field-0.0 c.in_err-p.ensures.judged)

pub invariant_of-v : goal.invariant_of-v
invariant_of-v c = record { lent = lent_in_front c.args.t c.args.s c.args.k.now c.args.d.now c.args.y.now _ _ _ c.in_ok-p.p c.in_ok-p.ensures.judged.1 }

pub offer-requires-clause-on_ground : goal.offer-requires-clause-on_ground
offer-requires-clause-on_ground c =
    let q = c.in_ok-p.ensures.judged.1 in
    record {
      shape = rw q.table_is q.is_shaped;
      on_time = rw q.table_is q.on_time;
      few = q.few;
      numbers = rw q.table_is q.fills.numbers;
      in_k = rw q.table_is (front_k c.args.t c.args.s c.args.k.now c.args.d.now c.args.y.now _ _ _ c.in_ok-p.p q);
      in_y = rw q.table_is (front_y c.args.t c.args.s c.args.k.now c.args.d.now c.args.y.now _ _ _ c.in_ok-p.p q);
    }

pub offer-requires-clause-d_value : goal.offer-requires-clause-d_value
offer-requires-clause-d_value c =
    let q = c.in_ok-p.ensures.judged.1 in
    rw q.table_is (front_d c.args.t c.args.s c.args.k.now c.args.d.now c.args.y.now _ _ _ c.in_ok-p.p q)

pub returns-clause-judged : goal.returns-clause-judged
returns-clause-judged c =
    let a = c.args in
    let j = c.in_ok-p.ensures.judged in
    says_later a.t a.s a.work a.latest a.k.now a.d.now a.y.now j.0 j.1.is_shaped c.offer.result (rw j.1.table_is at c.offer.ensures)
