-- What stands at the byte is the rest of the input from there on.
use Rattle.std.specs.Prelude.{Result, Ok, Err, Some, None}
use Rattle.std.proofs.Common.{inl, inr, ◌≡◌, refl, ◌∙◌, ℕ, ◌+◌, ◌<◌, true, false, List, length, drop, arith, drop_of_length-le}
use Rattle.tagged.specs.Rest.{to_the_end}
use Rattle.std.specs.Result.{result_ok}
use Rattle.paper.specs.declared.Refusal.{Refusal}
use Rattle.paper.specs.Refusals.{passed}
use Rattle.paper.specs.Refused.{Says}
use Rattle.paper.specs.Calls.{first_given}
use Rattle.paper.specs.Fields.{tag, field_length, arrival_in, is_arrival, arrival_at}
use Rattle.fields.specs.declared.Kind.{Kind}
use Rattle.fields.specs.declared.Kind.TheVariants.{Task, Arrival, Slots}
use Rattle.fields.specs.Kinds.{number_of}
use Rattle.fields.specs.Shape.{shape_refusals}
use Rattle.fields.proofs.Judged as laws
use Rattle.fields.proofs.arrival_at.Goals as goal

past_end : (bs : List ℕ) (p : ℕ) → length bs < p → None ≡ arrival_at bs p
unfolding is_arrival arrival_at
past_end bs p h = rw (drop_of_length-le bs {i = p} (omega arith))

module _ (bs : List ℕ) (p : ℕ) (part : List ℕ) (is : part ≡ drop p bs) where
  found : is_arrival part ≡ true → Some (record { arrival = arrival_in part; after = p + field_length part }) ≡ arrival_at bs p
  unfolding arrival_at
  found e = rw (← is, e)

  not_found : is_arrival part ≡ false → None ≡ arrival_at bs p
  unfolding arrival_at
  not_found e = rw (← is, e)

-- what the field that stands there is
module _ (bs : List ℕ) where
  abbrev Told : Result Kind Refusal → Type 0
  Told = Says (first_given (shape_refusals 0 bs)) (λ k. tag bs ≡ number_of k)

  none_told : (r : Result Kind Refusal) → Told r → None ≡ result_ok r → is_arrival bs ≡ false
  none_told (Ok k) h e = cc
  none_told (Err r) h e = laws.none_refused 0 bs r h

  told : (k : Kind) (r : Result Kind Refusal) → Told r → Some k ≡ result_ok r → (first_given (shape_refusals 0 bs) ≡ passed) × (tag bs ≡ number_of k)
  told k (Ok m) h e = let q : m ≡ k = cc in (h.0, rw q at h.1)
  told k (Err r) h e = cc

  other : (k : Kind) → tag bs ≡ number_of k → (k ≡ Arrival → ⊥) → is_arrival bs ≡ false
  other Task h n = laws.none_other bs (λ z. omega (arith, h, z))
  other Arrival h n = absurd (n refl)
  other Slots h n = laws.none_other bs (λ z. omega (arith, h, z))

pub returns-in_err-rest : goal.returns-in_err-rest
returns-in_err-rest c =
    let a = c.args in
    let past : length a.bytes.now < a.at = elim c.in_err-rest.ensures.lookup.0 [
      | inl h ↦ h
      | inr h ↦ absurd (omega arith)
    ] in
    c.from_residual.ensures ∙ past_end a.bytes.now a.at past

pub returns-in_err-ok : goal.returns-in_err-ok
returns-in_err-ok c =
    let a = c.args in
    let rest = c.in_ok-rest.rest.now in
    let is = c.in_ok-rest.ensures.lookup.0.2 ∙ to_the_end a.bytes.now a.at in
    c.from_residual-in_err-ok.ensures ∙ not_found a.bytes.now a.at rest is (none_told rest c.kind.result c.kind.ensures c.in_err-ok.ensures.value)

pub returns-in_default : goal.returns-in_default
returns-in_default c =
    let a = c.args in
    let rest = c.in_ok-rest.rest.now in
    let is = c.in_ok-rest.ensures.lookup.0.2 ∙ to_the_end a.bytes.now a.at in
    let k = told rest c.in_ok-ok.field-0 c.kind.result c.kind.ensures c.in_ok-ok.ensures.value in
    not_found a.bytes.now a.at rest is (other rest c.in_ok-ok.field-0 k.1 c.in_default.not-Arrival)

pub overflow_add-result : goal.overflow_add-result
overflow_add-result c =
    let rest = c.in_ok-rest.rest.now in
    let k = rw c.in-Arrival.is at (told rest c.in_ok-ok.field-0 c.kind.result c.kind.ensures c.in_ok-ok.ensures.value) in
    omega (arith, c.field_length.ensures, laws.arrival_whole rest (laws.found 0 rest k.0 k.1), c.in_ok-rest.ensures.lookup.0.3)

pub returns : goal.returns
returns c =
    let a = c.args in
    let rest = c.in_ok-rest.rest.now in
    let is = c.in_ok-rest.ensures.lookup.0.2 ∙ to_the_end a.bytes.now a.at in
    let k = rw c.in-Arrival.is at (told rest c.in_ok-ok.field-0 c.kind.result c.kind.ensures c.in_ok-ok.ensures.value) in
    rw (c.field_length.ensures, c.arrival.ensures) (found a.bytes.now a.at rest is (laws.found 0 rest k.0 k.1))
