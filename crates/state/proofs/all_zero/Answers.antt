-- Every place is clear.
use Rattle.std.proofs.Common.{ap}
use Rattle.paper.specs.declared.Work.{Work}
use Rattle.paper.specs.View.{no_request, no_job}
use Rattle.state.proofs.Released.{all_same, clear_job, zero_is}
use Rattle.state.proofs.all_zero.Goals as goal

pub returns : goal.returns
returns c =
    let s = c.default.result in
    let h = c.default.ensures in
    let rs = all_same no_request s.requests 16 h.1.0.long (λ i k. ap (λ (w : Work). record { work = w }) (h.1.0.at i no_request k)) in
    let js = all_same no_job s.jobs 8 h.1.1.0.long (λ i k. let e = h.1.1.0.at i no_job k in clear_job _ _ e.0 e.1) in
    zero_is s.now.0 s.requests s.jobs s.waiting s.given s.idle h.0 rs js h.1.1.1.0 h.1.1.1.1.0 h.1.1.1.1.1
