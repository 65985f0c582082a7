-- What is kept stands for a file at each turn; a field's refusal is the file's.
use Rattle.std.specs.Prelude.{Option, None, Some}
use Rattle.std.proofs.Common.{[], Fits, w8, ◌≡◌, refl, sym, ap, ◌∙◌, ℕ, ◌+◌, ◌-◌, ◌<◌, List, length, get_or, take, drop, arith}
use Rattle.std.proofs.lemmas.List.{get_or-drop}
use Rattle.tagged.specs.Numbers.{two_bytes}
use Rattle.tagged.specs.Rest.{to_the_end}
use Rattle.paper.specs.Refusals.{passed}
use Rattle.paper.specs.Refused.{numbered}
use Rattle.paper.specs.View.{table_of}
use Rattle.paper.specs.Fields.{File, read, refused, empty, at_end, number_at}
use Rattle.fields.specs.declared.Seen.{Seen}
use Rattle.fields.specs.Seen.{seen_of, last_of, Outcome}
use Rattle.fields.proofs.Judged as laws
use Rattle.fields.proofs.Kept as kept
use Rattle.fields.proofs.Walk as walk
use Rattle.fields.proofs.read_file.Goals as goal

pub returns-then-bytes-gt-LONGEST_INPUT : goal.returns-then-bytes-gt-LONGEST_INPUT
returns-then-bytes-gt-LONGEST_INPUT c = walk.read_long c.args.bytes.now c.if-bytes-gt-LONGEST_INPUT.true

pub loop-at-init : goal.loop-at-init
unfolding last_of
loop-at-init c =
    let d = c.default-seen.ensures in
    let clear : c.default-seen.result.table ≡ table_of [] = kept.empty_table c.default-seen.result.table d.0 in
    let start : c.default-seen.result ≡ seen_of empty = λ i. record { table = clear i; last = d.1.0 i; slots = d.1.1 i } in
    record { short = c.if-bytes-gt-LONGEST_INPUT.false; walked = walk.walk_start c.args.bytes.now c.default-seen.result start }

-- two bytes, each below 256
two_fit : (bs : List ℕ) (p : ℕ) → ((i : ℕ) → Fits w8 (get_or bs i 0)) → number_at 1 2 (take (length bs - p) (drop p bs)) < 65536
two_fit bs p h = rw (to_the_end bs p) (omega (arith, two_bytes 1 (drop p bs), get_or-drop p bs 1 0, get_or-drop p bs 2 0, (h (p + 1)).fits, (h (p + 2)).fits))

pub overflow_add-next : goal.overflow_add-next
overflow_add-next c = omega (arith, c.field_length.ensures, two_fit c.args.bytes.now c.loop-at.at c.type_inv.bytes, c.loop-at.invariant.short)

pub returns-in_err-read : goal.returns-in_err-read
returns-in_err-read c =
    let bs = c.args.bytes.now in
    let at = c.loop-at.at in
    let w = c.loop-at.invariant.walked in
    let r = c.in_err-read.field-0.0 in
    let stop = walk.walk_stop bs at c.loop-at.seen w c.loop-at-test.true _ (to_the_end bs at) r (c.in_err-read.ensures w.file w.is) in
    laws.handed (λ x. Outcome (read bs) x) r c.from_residual.result c.from_residual.ensures.1 (walk.read_short bs c.loop-at.invariant.short ∙ stop)

pub loop-at-preserved : goal.loop-at-preserved
loop-at-preserved c =
    let bs = c.args.bytes.now in
    let at = c.loop-at.at in
    let w = c.loop-at.invariant.walked in
    let more = c.in_ok-read.ensures w.file w.is in
    record {
      short = c.loop-at.invariant.short;
      walked = rw c.field_length.ensures (walk.walk_more bs at c.loop-at.seen w c.loop-at-test.true _ (to_the_end bs at) more.0 c.read.new.self more.1);
    }

-- what is said at the end of a file
module _ (f : File) (p : ℕ) where
  not_ended : f.slots ≡ None → at_end f p ≡ refused (numbered 19 p)
  not_ended e = rw e

  at_last : (n : ℕ) → f.slots ≡ Some n → (at_end f p ≡ record { verdict = passed; file = f }) × (Some n ≡ f.slots)
  at_last n e = by f.slots refl
    where
      by : (o : Option ℕ) → f.slots ≡ o → (at_end f p ≡ record { verdict = passed; file = f }) × (Some n ≡ f.slots)
      by None q = let z : None ≡ Some n = rw q at e in cc
      by (Some m) q = let z : Some m ≡ Some n = rw q at e in (rw q, cc)

pub returns-in_default : goal.returns-in_default
returns-in_default c =
    let bs = c.args.bytes.now in
    let at = c.loop-at.at in
    let w = c.loop-at.invariant.walked in
    walk.read_short bs c.loop-at.invariant.short
    ∙ walk.walk_end bs at c.loop-at.seen w c.loop-at-test.false
    ∙ not_ended w.file at (ap (λ (s : Seen). s.slots) (sym w.is) ∙ c.in_default.is)

pub returns : goal.returns
returns c =
    let bs = c.args.bytes.now in
    let at = c.loop-at.at in
    let w = c.loop-at.invariant.walked in
    let last = at_last w.file at c.in-Some.slots (ap (λ (s : Seen). s.slots) (sym w.is) ∙ c.in-Some.is) in
    let is : read bs ≡ record { verdict = passed; file = w.file } = walk.read_short bs c.loop-at.invariant.short ∙ walk.walk_end bs at c.loop-at.seen w c.loop-at-test.false ∙ last.0 in
    let table : c.loop-at.seen.table ≡ table_of w.file.tasks = ap (λ (s : Seen). s.table) w.is in
    rw is (refl, table, last.1, omega (arith, w.few, kept.count_is w.file w.is))
