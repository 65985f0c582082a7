-- Each request's flag is put in its place; what is known of the word's bits is the theory's.
use Rattle.std.proofs.Common.{◌≡◌, take}
use Rattle.paper.specs.Rule.{ready_word}
use Rattle.paper.specs.View.{request_lefts}
use Rattle.state.proofs.requests.ready.Given as goal

abbrev pub invariant-loop-i : goal.invariant-loop-i
invariant-loop-i l = l.word ≡ ready_word (request_lefts (take l.i l.requests))
