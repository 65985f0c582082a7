-- By the boot call's number: the run of the file, or the line of its refusal and a run of no slots.
use Rattle.std.proofs.Common.{◌≡◌, sym, ap, ◌∙◌, arith, eq-eqb, ne_eqb, rules}
use Rattle.paper.specs.declared.BootAnswer.{BootAnswer}
use Rattle.paper.specs.Fields.{boot_verdict, boot_call, fields_answer}
use Rattle.boot.proofs.Boots.{of_fields}
use Rattle.decimal.specs.Told.{told_more}
use Rattle.listing.specs.Run.{begun}
use Rattle.listing.proofs.begin.Goals as goal

pub returns-then-boot-eq0 : goal.returns-then-boot-eq0
unfolding begun boot_call fields_answer
returns-then-boot-eq0 c =
    let bs = c.args.bytes.now in
    let f = c.read_fields-file.ensures in
    let b = c.judge-boot.ensures ∙ of_fields bs _ f in
    let passed : (boot_verdict bs).number ≡ 0 = ap (λ (b : BootAnswer). b.number) (sym b) ∙ c.if-boot-eq0.true in
    let w = c.first_line.ensures.told in
    rw (w.wrote.place, c.from_power_on-run.ensures, f, eq-eqb (boot_verdict bs).number 0 passed) (search rules)

pub returns : goal.returns
unfolding begun boot_call fields_answer
returns c =
    let bs = c.args.bytes.now in
    let f = c.read_fields-file.ensures in
    let b = c.judge-boot.ensures ∙ of_fields bs _ f in
    let number = ap (λ (b : BootAnswer). b.number) b in
    let place = ap (λ (b : BootAnswer). b.place) b in
    let room = c.requires in
    let w = rw (number, place) at (told_more (omega arith) c.first_line.ensures.told c.bad_line.ensures.told) in
    let refused = ne_eqb (boot_verdict bs).number 0 (λ z. c.if-boot-eq0.false (number ∙ z)) in
    rw (w.wrote.place, c.from_power_on-run.ensures, f, refused) (search rules)
