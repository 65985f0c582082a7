use Rattle.std.proofs.Common.{arith, rules, ◌≡◌, ℕ, ◌<◌, get_or}
use Rattle.paper.specs.View.{no_request, left_of}
use Rattle.moving.proofs.Walk.{lefts_from}
use Rattle.moving.proofs.Moment.lefts.Goals as goal

pub returns : goal.returns
returns c =
    let rs = c.args.self.now.requests in
    let long = c.map.ensures.items.long in
    let each : (i : ℕ) → i < 16 → get_or c.map.result i 0 ≡ left_of (get_or rs i no_request).work
    = λ i h. let q = c.map.ensures.items.at i no_request 0 h in search rules in
    lefts_from c.map.result rs (omega arith) (λ i h. each i (omega arith))
