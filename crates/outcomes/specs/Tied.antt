-- What can be said of the very contract that a function was proved to meet: of `spec` in `Rattle.CRATE.specs.contracts.FUNCTION`, which is
-- `clauses` there with the last values bound (`is_met`).
-- An outcome is an answer and the last value of each lent vector and state. `Said E`: the contract asks nothing of the caller, and
-- every outcome that it allows is as E says. `One`: any two outcomes that it allows are equal.
use Rattle.std.specs.Prelude.{◌≡◌}
use Rattle.std.proofs.Common.{sym, ap, ◌∙◌}
use Rattle.std.proofs.Math.Logic.{∥∥₁_prop, ∥∥₁_map, ∥∥₁_elim}
use seplogic.Ra.Ura.{Ura}
use base.Logic.{SProp, ent, sep, emp, ex, ex_i, ex_e, via, mono_r, fst∗, snd∗}
use types.Logic.{Logic, sem}
use contract.Lifetimes.{Lfts}
use contract.Monad.{fact, fact_i, fact_use}
use denote.Triple.Entry.{Args, Res}
use denote.Triple.Spec.{Spec}
use denote.Triple.Clauses.{Ended, Clauses, Lasts, at_exit, lasts, ensured, closing}

-- a contract at the arguments of a call
pub record Call {M : Type 1} {𝓤 : Ura M} (𝓛 : Logic 𝓤) : Type 2 where
  pub ended : Ended
  pub clauses : Clauses 𝓤 ended
  -- what the function's proof says that it meets
  pub spec : Spec 𝓤 ended.signature
  pub is_met : closing 𝓛 ended clauses ≡ spec
  pub lifetimes : Lfts ended.signature.lifetimes
  pub args : Args ended.signature lifetimes
  pub ghost : (clauses lifetimes args).ghost

module _ {M : Type 1} {𝓤 : Ura M} (𝓛 : Logic 𝓤) (c : Call 𝓛) where
  abbrev pub Answer : Type 0
  Answer = Res c.ended.signature c.lifetimes

  abbrev pub Left : Type 0
  Left = Lasts c.ended c.lifetimes c.args

  -- the contract allows the answer r and the last values ws
  abbrev pub allows : Answer → Left → SProp 𝓤
  allows r ws = (c.clauses c.lifetimes c.args).ensures c.ghost r (at_exit c.ended c.lifetimes c.args ws)

  -- what the caller has once the function returns r, with E of what it left
  abbrev Leaves : (Answer → Left → Type 0) → Answer → SProp 𝓤
  Leaves E r = ex 𝓤 (λ (ws : Left). sep 𝓤 (sem 𝓛 (lasts c.ended c.lifetimes c.args ws)) (fact 𝓤 (E r ws)))

  -- the contract asks nothing of the caller, each outcome that it allows is as E says, and so is what the caller has
  pub record Said (E : Answer → Left → Type 0) : Type 1 where
    pub asks_nothing : ent 𝓤 (emp 𝓤) ((c.clauses c.lifetimes c.args).requires c.ghost)
    pub of_each : (r : Answer) (ws : Left) → ent 𝓤 (allows r ws) (fact 𝓤 (E r ws))
    pub ensures : (r : Answer) → ent 𝓤 (ensured 𝓛 c.ended c.clauses c.lifetimes c.args c.ghost r) (Leaves E r)

  -- two outcomes that the contract allows, each with whatever resources, are equal
  abbrev pub One : Type 1
  One = (m m' : M) (r r' : Answer) (ws ws' : Left) → (allows r ws).holds m → (allows r' ws').holds m' → ∥ ((r ≡ r') × (ws ≡ ws')) ∥₁

  -- from what each outcome is to what the caller has
  pub says : {E : Answer → Left → Type 0} → ent 𝓤 (emp 𝓤) ((c.clauses c.lifetimes c.args).requires c.ghost)
      → ((r : Answer) (ws : Left) → ent 𝓤 (allows r ws) (fact 𝓤 (E r ws))) → Said E
  says {E} q h = record {
    asks_nothing = q;
    of_each = h;
    ensures = λ r. ex_e 𝓤 _ (λ ws.
        via 𝓤 (sep 𝓤 (sem 𝓛 (lasts c.ended c.lifetimes c.args ws)) (fact 𝓤 (E r ws)))
        (mono_r 𝓤 (sem 𝓛 (lasts c.ended c.lifetimes c.args ws)) (h r ws))
        (ex_i 𝓤 (λ (vs : Left). sep 𝓤 (sem 𝓛 (lasts c.ended c.lifetimes c.args vs)) (fact 𝓤 (E r vs))) ws));
  }

  -- where the whole outcome is one, so are its parts
  pub one : {X : Type 0} {E : Answer → Left → Type 0} {paper : X} → Said E → (whole : Answer → Left → X) (parts : X → Answer × Left)
      → ((r : Answer) (ws : Left) → parts (whole r ws) ≡ (r, ws)) → ((r : Answer) (ws : Left) → E r ws → whole r ws ≡ paper) → One
  one said whole parts are equation m m' r r' ws ws' h h' =
      ∥∥₁_elim ((said.of_each r ws).apply m h) ∥∥₁_prop (λ e.
      ∥∥₁_map ((said.of_each r' ws').apply m' h') (λ e'.
      let p : parts (whole r ws) ≡ parts (whole r' ws') = ap parts (equation r ws e.0 ∙ sym (equation r' ws' e'.0)) in
      let q : ◌≡◌ {A = Answer × Left} (r, ws) (r', ws') = sym (are r ws) ∙ p ∙ are r' ws' in
      (ap (λ (x : Answer × Left). x.0) q, ap (λ (x : Answer × Left). x.1) q)))

-- two clauses are one of both facts, and three are one of all
both : {M : Type 1} (𝓤 : Ura M) (φ ψ : Type 0) → ent 𝓤 (sep 𝓤 (fact 𝓤 φ) (fact 𝓤 ψ)) (fact 𝓤 (φ × ψ))
both 𝓤 φ ψ =
    fact_use 𝓤 φ (fst∗ 𝓤 (fact 𝓤 φ) (fact 𝓤 ψ)) (λ x.
    fact_use 𝓤 ψ (snd∗ 𝓤 (fact 𝓤 φ) (fact 𝓤 ψ)) (λ y. fact_i 𝓤 (φ × ψ) (sep 𝓤 (fact 𝓤 φ) (fact 𝓤 ψ)) (x, y)))

pub all_three : {M : Type 1} (𝓤 : Ura M) (φ ψ χ : Type 0)
    → ent 𝓤 (sep 𝓤 (fact 𝓤 φ) (sep 𝓤 (fact 𝓤 ψ) (fact 𝓤 χ))) (fact 𝓤 (φ × (ψ × χ)))
all_three 𝓤 φ ψ χ = via 𝓤 (sep 𝓤 (fact 𝓤 φ) (fact 𝓤 (ψ × χ))) (mono_r 𝓤 (fact 𝓤 φ) (both 𝓤 ψ χ)) (both 𝓤 φ (ψ × χ))
