-- Fewer bytes than asked for are left: each place gets the byte that is there, or 0.
use Rattle.std.proofs.Common.{rules, ◌≡◌, ◌∙◌, sym, get_or, drop, arith}
use Rattle.std.proofs.lemmas.Grind.{same_number_lists}
use Rattle.paper.specs.View.{padded}
use Rattle.tagged.proofs.Read.{from_place, padded_long, padded_at, from_calls}
use Rattle.tagged.proofs.bytes_at.Goals as goal

pub returns : goal.returns
returns g c =
    let n = g.row.N in
    let read = c.from_fn.result in
    let left = drop c.args.at c.args.bytes.now in
    let rest = from_place c.args.bytes.now c.args.at c.min.result c.min.ensures in
    let calls = c.from_fn.ensures.items in
    let each = from_calls _ (λ f. f.0.now ≡ left) (λ i. get_or left i 0) (λ f f' i y kept called. (search rules, search rules)) read _ 0 n rest calls.each in
    same_number_lists read (padded n 0 left) (calls.long ∙ sym (padded_long n left)) (λ i h. each i (omega arith) (omega (arith, calls.long)) ∙ sym (padded_at n i left (omega (arith, calls.long))))
