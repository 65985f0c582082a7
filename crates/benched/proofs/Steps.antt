-- What a turn of each loop does to what is left, counting down, and how power-on, the jobs and the slots follow one another.
use Prim.Native.Nat.{ℕ, suc}
use mathlib.Core.List.{List}
use mathlib.Core.Path.{◌≡◌, ap, ◌∙◌}
use Rattle.paper.specs.declared.Table.{Table}
use Rattle.paper.specs.declared.State.{State}
use Rattle.paper.specs.declared.PowerOnAnswer.{PowerOnAnswer}
use Rattle.paper.specs.Calls.{power_on_call, slot_call}
use Rattle.benched.specs.Stand.{Standing, asks, leaves, admitted, ran, then_ran, stands}

pub one_admitted : (n m : ℕ) → n ≡ suc m → (t : Table) (work : ℕ) (a : Standing) → admitted n t work a ≡ admitted m t work (leaves (asks t work a))
unfolding admitted
one_admitted n m e t work a = rw e

pub one_ran : (n m : ℕ) → n ≡ suc m → (t : Table) (s : State) → ran n t s ≡ ran m t (slot_call t s).state
unfolding ran
one_ran n m e t s = rw e

pub none_admitted : (n : ℕ) → n ≡ 0 → (t : Table) (work : ℕ) (a : Standing) → admitted n t work a ≡ a
unfolding admitted
none_admitted n e t work a = rw e

pub none_ran : (n : ℕ) → n ≡ 0 → (t : Table) (s : State) → ran n t s ≡ s
unfolding ran
none_ran n e t s = rw e

pub stood : (t : Table) (jobs work slots : ℕ) (k d y k' d' y' : List ℕ) (p : PowerOnAnswer) (s r : State)
    → p ≡ power_on_call t
    → record { state = s; k = k'; d = d'; y = y' } ≡ admitted jobs t work (record { state = p.state; k = k; d = d; y = y })
    → r ≡ ran slots t s
    → record { state = r; k = k'; d = d'; y = y' } ≡ stands t jobs work slots k d y
unfolding stands
stood t jobs work slots k d y k' d' y' p s r e f g =
    ap (λ (z : State). record { state = z; k = k'; d = d'; y = y' }) g
    ∙ ap (λ (a : Standing). then_ran slots t a) f
    ∙ ap (λ (q : PowerOnAnswer). then_ran slots t (admitted jobs t work (record { state = q.state; k = k; d = d; y = y }))) e
