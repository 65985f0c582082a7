-- A task's work is at least 1.
use mathlib.Core.Path.{sym}
use native.Mathlib.Omega.{arith}
use Rattle.state.proofs.Walks.{some_request}
use Rattle.state.proofs.requests.whole.Goals as goal

pub returns : goal.returns
returns c = sym (some_request _ (λ e. absurd (omega (arith, e))))
