-- Tag 3 was read, the bytes of the field, its place in the file.
use Rattle.std.specs.Prelude.{is_some, Option, None, Some}
use Rattle.std.proofs.Common.{◌≡◌, refl, sym, ap, ◌∙◌, ℕ, Bool}
use Rattle.paper.specs.Refused.{Says}
use Rattle.paper.specs.Fields.{File, ended, field_verdict, with_field}
use Rattle.fields.specs.declared.Seen.{Seen}
use Rattle.fields.specs.Seen.{seen_of}
use Rattle.fields.proofs.Judged as laws
use Rattle.fields.proofs.Seen.read.Goals as goal

-- whether tag 3 was read
ending : {s : Seen} (f : File) → s ≡ seen_of f → {b : Bool} → b ≡ is_some s.slots → ended f.slots ≡ b
ending f e r = ended_is f.slots ∙ sym (r ∙ ap (λ (x : Seen). is_some x.slots) e)
  where
    ended_is : (o : Option ℕ) → ended o ≡ is_some o
    ended_is None = refl
    ended_is (Some n) = refl

pub returns-then-is_some : goal.returns-then-is_some
returns-then-is_some c f e = laws.after_end f c.args.field.at c.args.field.bytes.now (ending f e c.is_some.ensures ∙ c.if-is_some.true)

pub returns-in_err-body : goal.returns-in_err-body
returns-in_err-body c f e =
    let a = c.args in
    let going = ending f e c.is_some.ensures ∙ c.if-is_some.false in
    let r = c.in_err-body.field-0.0 in
    laws.handed (λ x. Says (field_verdict f a.field.at a.field.bytes.now) (λ u. a.self.now ≡ seen_of (with_field f a.field.bytes.now)) x) r c.from_residual.result c.from_residual.ensures.1 (laws.by_shape f a.field.at a.field.bytes.now going r c.in_err-body.ensures)

pub returns : goal.returns
returns c f e =
    let a = c.args in
    let going = ending f e c.is_some.ensures ∙ c.if-is_some.false in
    let body = c.in_ok-body.ensures in
    rw (laws.by_order f a.field.at a.field.bytes.now going body.0) (c.add.ensures f e a.field.bytes.now body.1)
