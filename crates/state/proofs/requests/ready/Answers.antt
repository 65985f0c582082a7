use Rattle.std.proofs.Common.{◌≡◌, ◌∙◌, ◌+◌, arith, rules, length, take_all}
use Rattle.paper.specs.Rule.{ready_word}
use Rattle.paper.specs.View.{request_lefts}
use Rattle.theory.specs.ReadyWord.{word_more, word_bit, take-lefts}
use Rattle.theory.specs.States.{left_at, lefts_length}
use Rattle.state.proofs.requests.ready.Goals as goal

pub loop-i-init : goal.loop-i-init
unfolding ready_word request_lefts
loop-i-init c = search rules

pub loop-i-preserved : goal.loop-i-preserved
loop-i-preserved c =
    let rs = c.args.requests.now in
    let l = c.loop-i in
    let ls = request_lefts rs in
    let long : length ls ≡ length rs = lefts_length rs in
    rw (l.invariant, c.flag.ensures, ← left_at rs l.i, take-lefts l.i rs, take-lefts (l.i + 1) rs) (word_more ls l.i (omega arith) (omega arith))

pub returns-clause-bits : goal.returns-clause-bits
returns-clause-bits c =
    let rs = c.args.requests.now in
    let is : c.loop-i.word ≡ ready_word (request_lefts rs) = c.loop-i.invariant ∙ rw (take_all c.loop-i.i rs (omega arith)) in
    λ j. rw is (word_bit (request_lefts rs) j)
