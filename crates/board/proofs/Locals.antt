-- A function's locals, all at once: the blocks that they get on entry, what lies in them when the arguments have been stored, and how they
-- are let go on return. A local is two entries of the context, its cell and the right to free it; the result's come first, then those of
-- the arguments, then the others'.
use mathlib.Core.List.{List, [], ◌∷◌, ◌++◌}
use Prim.Native.Nat.{ℕ, zero}
use seplogic.Ra.Ura.{Ura}
use base.Fraction.{full_share}
use lib.Dec.{T}
use mir.Syntax.{Ty, Local, local, Fn, place, return}
use mir.Val.{Val, WT, has_ty}
use base.Logic.{SProp, ent, sep, via, comm∗, assoc∗, assoc', mono_l, mono_r}
use base.Fml.{fat, froom, fdies}
use prog.Wp.{Env, Calls, Loops, WpFn}
use types.Logic.{Logic}
use types.Kit.{Item, ‵, mean, ⋆, push, pop, ++⊢, ⊢++, Goal, prop, runs, lands, at_ret, allocs, params', passes, frees, Seq, Step, step, ◌$◌}
use types.Run.{look, init, stop, from, land, returns, forget, enter, alloc1, alloc0, params1, pass1, pass0, free1, free0}
use mathlib.Core.Path.{refl}

-- a block for each local
abbrev pub Blocks : List Local → Type 0
Blocks [] = Unit {0}
Blocks (local τ h ∷ ls) = ℕ × Blocks ls

-- each value is of its local's type: the first locals', and those after the result's
abbrev pub Fill : List Local → List Val → Type 0
Fill ls [] = Unit {0}
Fill [] (v ∷ vs) = ⊥
Fill (local τ h ∷ ls) (v ∷ vs) = (T (has_ty τ v) × WT v) × Fill ls vs

abbrev pub Fit : List Local → List Val → Type 0
Fit [] vs = ⊥
Fit (local τ h ∷ ls) vs = Fill ls vs

-- their types and blocks
abbrev pub env_of : (ls : List Local) → Blocks ls → List (Ty × ℕ)
env_of [] bs = []
env_of (local τ h ∷ ls) bs = (τ, bs.0) ∷ env_of ls bs.1

module _ {M : Type 1} {𝓤 : Ura M} where
  -- the locals with nothing in them yet
  abbrev pub rooms : (ls : List Local) → Blocks ls → List (Item 𝓤)
  rooms [] bs = []
  rooms (local τ h ∷ ls) bs = ‵ (froom τ bs.0 zero) ∷ ‵ (fdies τ bs.0) ∷ rooms ls bs.1

  -- the first of them with values
  abbrev pub filled : (ls : List Local) → Blocks ls → List Val → List (Item 𝓤)
  filled ls bs [] = rooms ls bs
  filled [] bs (v ∷ vs) = []
  filled (local τ h ∷ ls) bs (v ∷ vs) = ‵ (fat full_share τ bs.0 zero v) ∷ ‵ (fdies τ bs.0) ∷ filled ls bs.1 vs

  -- on entry: nothing in the result's, and the arguments in those after it
  abbrev pub begun : (ls : List Local) → Blocks ls → List Val → List (Item 𝓤)
  begun [] bs vs = []
  begun (local τ h ∷ ls) bs vs = ‵ (froom τ bs.0 zero) ∷ ‵ (fdies τ bs.0) ∷ filled ls bs.1 vs

-- ---- an entry behind a list of entries, and before it
module _ {M : Type 1} {𝓤 : Ura M} (𝓛 : Logic 𝓤) where
  swap : (P Q R : SProp 𝓤) → ent 𝓤 (sep 𝓤 P (sep 𝓤 Q R)) (sep 𝓤 Q (sep 𝓤 P R))
  swap P Q R = via 𝓤 (sep 𝓤 (sep 𝓤 P Q) R) (assoc' 𝓤 P Q R) (via 𝓤 (sep 𝓤 (sep 𝓤 Q P) R) (mono_l 𝓤 R (comm∗ 𝓤 P Q)) (assoc∗ 𝓤 Q P R))

  forth : (Δ : List (Item 𝓤)) (i : Item 𝓤) (Γ : List (Item 𝓤)) → ent 𝓤 (⋆ 𝓛 (Δ ++ (i ∷ Γ))) (⋆ 𝓛 (i ∷ (Δ ++ Γ)))
  forth Δ i Γ =
      via 𝓤 (sep 𝓤 (⋆ 𝓛 Δ) (⋆ 𝓛 (i ∷ Γ))) (⊢++ 𝓛 Δ (i ∷ Γ))
      (via 𝓤 (sep 𝓤 (⋆ 𝓛 Δ) (sep 𝓤 (mean 𝓛 i) (⋆ 𝓛 Γ))) (mono_r 𝓤 (⋆ 𝓛 Δ) (pop 𝓛 i Γ))
      (via 𝓤 (sep 𝓤 (mean 𝓛 i) (sep 𝓤 (⋆ 𝓛 Δ) (⋆ 𝓛 Γ))) (swap (⋆ 𝓛 Δ) (mean 𝓛 i) (⋆ 𝓛 Γ))
      (via 𝓤 (sep 𝓤 (mean 𝓛 i) (⋆ 𝓛 (Δ ++ Γ))) (mono_r 𝓤 (mean 𝓛 i) (++⊢ 𝓛 Δ Γ)) (push 𝓛 i (Δ ++ Γ)))))

  back : (Δ : List (Item 𝓤)) (i : Item 𝓤) (Γ : List (Item 𝓤)) → ent 𝓤 (⋆ 𝓛 (i ∷ (Δ ++ Γ))) (⋆ 𝓛 (Δ ++ (i ∷ Γ)))
  back Δ i Γ =
      via 𝓤 (sep 𝓤 (mean 𝓛 i) (⋆ 𝓛 (Δ ++ Γ))) (pop 𝓛 i (Δ ++ Γ))
      (via 𝓤 (sep 𝓤 (mean 𝓛 i) (sep 𝓤 (⋆ 𝓛 Δ) (⋆ 𝓛 Γ))) (mono_r 𝓤 (mean 𝓛 i) (⊢++ 𝓛 Δ Γ))
      (via 𝓤 (sep 𝓤 (⋆ 𝓛 Δ) (sep 𝓤 (mean 𝓛 i) (⋆ 𝓛 Γ))) (swap (mean 𝓛 i) (⋆ 𝓛 Δ) (⋆ 𝓛 Γ))
      (via 𝓤 (sep 𝓤 (⋆ 𝓛 Δ) (⋆ 𝓛 (i ∷ Γ))) (mono_r 𝓤 (⋆ 𝓛 Δ) (push 𝓛 i Γ)) (++⊢ 𝓛 Δ (i ∷ Γ)))))

  under : (i : Item 𝓤) (Γ Γ' : List (Item 𝓤)) → ent 𝓤 (⋆ 𝓛 Γ) (⋆ 𝓛 Γ') → ent 𝓤 (⋆ 𝓛 (i ∷ Γ)) (⋆ 𝓛 (i ∷ Γ'))
  under i Γ Γ' h =
      via 𝓤 (sep 𝓤 (mean 𝓛 i) (⋆ 𝓛 Γ)) (pop 𝓛 i Γ)
      (via 𝓤 (sep 𝓤 (mean 𝓛 i) (⋆ 𝓛 Γ')) (mono_r 𝓤 (mean 𝓛 i) h) (push 𝓛 i Γ'))

module _ {M : Type 1} {𝓤 : Ura M} {𝓛 : Logic 𝓤} {K : Type 0} where
  open 𝓛 use {H}

  module _ {G : Goal 𝓤 H} where
    became : {Γ Γ' : List (Item 𝓤)} → ent 𝓤 (⋆ 𝓛 Γ) (⋆ 𝓛 Γ') → Step K 𝓛 Γ' G Γ G
    became {Γ} {Γ'} h = step (λ s. record { prf = via 𝓤 (⋆ 𝓛 Γ') h s.prf })

    -- a local's two entries, behind the later locals' and before them
    first_of : (Δ Γ : List (Item 𝓤)) {i j : Item 𝓤} → Step K 𝓛 (i ∷ j ∷ (Δ ++ Γ)) G (Δ ++ (i ∷ j ∷ Γ)) G
    first_of Δ Γ {i} {j} = became (via 𝓤 (⋆ 𝓛 (i ∷ (Δ ++ (j ∷ Γ))))
        (forth 𝓛 Δ i (j ∷ Γ)) (under 𝓛 i (Δ ++ (j ∷ Γ)) (j ∷ (Δ ++ Γ)) (forth 𝓛 Δ j Γ)))

    last_of : (Δ Γ : List (Item 𝓤)) {i j : Item 𝓤} → Step K 𝓛 (Δ ++ (i ∷ j ∷ Γ)) G (i ∷ j ∷ (Δ ++ Γ)) G
    last_of Δ Γ {i} {j} = became (via 𝓤 (⋆ 𝓛 (i ∷ (Δ ++ (j ∷ Γ))))
        (under 𝓛 i (j ∷ (Δ ++ Γ)) (Δ ++ (j ∷ Γ)) (back 𝓛 Δ j Γ)) (back 𝓛 Δ i (j ∷ Γ)))

  placed : K → (ls : List Local) {Kt : Env 𝓤 H → Goal 𝓤 H} {Γ : List (Item 𝓤)}
      → ((bs : Blocks ls) → Seq K 𝓛 (rooms ls bs ++ Γ) (Kt (env_of ls bs))) → Seq K 𝓛 Γ (allocs ls Kt)
  placed t [] k = alloc0 t $ k tt
  placed t (local τ h ∷ ls) {Kt} {Γ} k = alloc1 t (λ b. placed t ls {Kt = λ E. Kt ((τ, b) ∷ E)} (λ bs. first_of (rooms ls bs) Γ $ k (b, bs)))

  stored : K → (ls : List Local) (bs : Blocks ls) (vs : List Val) (Γ : List (Item 𝓤)) {g : Goal 𝓤 H}
      → Fill ls vs → Step K 𝓛 (filled ls bs vs ++ Γ) g (rooms ls bs ++ Γ) (passes (env_of ls bs) vs g)
  stored t ls bs [] Γ ok = pass0 t
  stored t [] bs (v ∷ vs) Γ ok = absurd ok
  stored t (local τ h ∷ ls) bs (v ∷ vs) Γ ok =
      let i : Item 𝓤 = ‵ (fat full_share τ bs.0 zero v) in
      let j : Item 𝓤 = ‵ (fdies τ bs.0) in
      step (λ s. pass1 t (init t 0 refl ok.0) $ last_of (rooms ls bs.1) Γ $ stored t ls bs.1 vs (i ∷ j ∷ Γ) ok.1 $ first_of (filled ls bs.1 vs) Γ $ s)

  passed_in : K → (ls : List Local) (bs : Blocks ls) (vs : List Val) (Γ : List (Item 𝓤)) {g : Goal 𝓤 H}
      → Fit ls vs → Step K 𝓛 (begun ls bs vs ++ Γ) g (rooms ls bs ++ Γ) (params' (env_of ls bs) vs g)
  passed_in t [] bs vs Γ ok = absurd ok
  passed_in t (local τ h ∷ ls) bs vs Γ ok =
      let i : Item 𝓤 = ‵ (froom τ bs.0 zero) in
      let j : Item 𝓤 = ‵ (fdies τ bs.0) in
      step (λ s. params1 t $ last_of (rooms ls bs.1) Γ $ stored t ls bs.1 vs (i ∷ j ∷ Γ) ok $ first_of (filled ls bs.1 vs) Γ $ s)

  freed : K → (ls : List Local) (bs : Blocks ls) (vs : List Val) {g : Goal 𝓤 H} {Γ : List (Item 𝓤)}
      → Step K 𝓛 Γ g (filled ls bs vs ++ Γ) (frees (env_of ls bs) g)
  freed t [] bs [] = free0 t
  freed t [] bs (v ∷ vs) = free0 t
  freed t (local τ h ∷ ls) bs [] = step (λ s. free1 t $ freed t ls bs.1 [] $ s)
  freed t (local τ h ∷ ls) bs (v ∷ vs) = step (λ s. forget t 0 refl $ free1 t $ freed t ls bs.1 vs $ s)

  -- The function is entered: its locals are there, with the arguments in them, behind what it had.
  pub enters : K → (C : Calls 𝓤 H) (Λ : Loops 𝓤 H) (f : Fn) (vs : List Val) (Kf : Val → SProp 𝓤) {i : Item 𝓤} → Fit f.locals vs
      → ((bs : Blocks f.locals) → Seq K 𝓛 (i ∷ (begun f.locals bs vs ++ [])) (runs C Λ (env_of f.locals bs) f.body (at_ret (env_of f.locals bs) Kf)))
      → Seq K 𝓛 (i ∷ []) (prop (WpFn 𝓤 H C Λ f vs Kf))
  enters t C Λ f vs Kf {i} ok k = enter t C Λ f vs Kf $ placed t f.locals (λ bs. passed_in t f.locals bs vs (i ∷ []) ok $
      became (forth 𝓛 (begun f.locals bs vs) i []) $ k bs)

  -- The function has returned: its locals are let go, whatever they hold.
  pub leaves : K → (ls : List Local) (bs : Blocks ls) (vs : List Val) {g : Goal 𝓤 H} {i : Item 𝓤}
      → Step K 𝓛 (i ∷ []) g (i ∷ (filled ls bs vs ++ [])) (frees (env_of ls bs) g)
  leaves t ls bs vs {g} {i} = step (λ s. became (back 𝓛 (filled ls bs vs) i []) $ freed t ls bs vs $ s)

  -- The call that is the function's last returns its answer.
  pub gives_back : K → {C : Calls 𝓤 H} {Λ : Loops 𝓤 H} (ls : List Local) (bs : Blocks ls) (vs : List Val) (v : Val) {Kf : Val → SProp 𝓤} {i : Item 𝓤} → Fill ls (v ∷ [])
      → Step K 𝓛 (i ∷ []) (prop (Kf v)) (i ∷ (begun ls bs vs ++ [])) (lands C Λ (env_of ls bs) (place 0 []) v return (at_ret (env_of ls bs) Kf))
  gives_back t [] bs vs v ok = absurd ok
  gives_back t (local τ h ∷ ls) bs vs v ok = step (λ s. land t (from t (stop t)) (init t 1 refl ok.0) $ returns t (look t 1 refl) $
      leaves t (local τ h ∷ ls) bs (v ∷ vs) $ s)
