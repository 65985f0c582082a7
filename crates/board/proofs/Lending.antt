-- The walk that the board's calls share: the lent run is copied by `lent::table_of`, and the table goes by value to the function that does
-- the work, with whatever else was passed; its answer is the call's. What a walk says of its own is which locals it reads.
-- All that is known of the two callees is that each meets its contract.
use mathlib.Core.Path.{◌≡◌, refl, sym, subst}
use Prim.Native.Nat.{ℕ, zero, suc, ◌+◌, ◌<◌, ◌^◌}
use mathlib.Core.List.{[], ◌∷◌, List, ◌++◌}
use lib.ListN.{length}
use seplogic.Ra.Ura.{Ura}
use base.Fraction.{full_share}
use mir.Syntax.{Callee, Ty, Lifetime, Local, Fn, Body, Place, Opd, Step as PStep, named, mut, ty_ref, place, field, deref, copy, addr_of, aggregate, seq, assign, call, return}
use mir.Val.{Val}
use base.Logic.{SProp, ent, sep, ex, emp, via, fst∗, snd∗, ex_e, id⊢}
use base.Fml.{Lft, Share, Fml, ftrue, fsep, flft, fat, froom}
use prog.Memory.{Memory}
use prog.Model.{Model}
use prog.Routine.{Routine, Env as Routines}
use prog.Wired.{Wired}
use prog.Wp.{Env, Spot, spot_of, Calls, Loops, WpFn, Closed}
use types.Logic.{Logic, sem}
use contract.Lifetimes.{Outlives, Lfts, toks}
use contract.Monad.{Fun, fact}
use contract.Running.{Running, tables, tables_of, within}
use types.Kit.{Item, Post, ‵, raw, ◌⊛◌, some, later, nth, put, runs, lands, at_ret, Seq, Sq, Step, step, ◌$◌, ◌∵◌, !, qed, move, drop, use1, split, join, pick, fsplit, fjoin, group, await, updating, now as at_once, suffices, show, done}
use types.Part.{Part, whole, sub, look_in, agg}
use types.Run.{Walks, Finds, Opds, look, init, stop, hop, fld, from, load, addr, and_then, no_more, assigns, land}
use sound.WpLaws.{FmC, fm_of}
use denote.RattleType.{RattleType, Denots, Valss, mirs, owns, flat}
use denote.Laws.{Typed, Is, Ises, Are, valss, shows, all_Typed}
use denote.Ref.{Bor, MutBor}
use denote.Slice.{slice_ty, ShrSlice}
use denote.Signature.{Signature, Slot, plain, shr_slice_of, types_at}
use denote.Steps.{said, peeks, heard, nothing}
use denote.Struct.Laws as LL
use denote.Triple.Statement.{Contract, Triple}
use denote.Triple.Call.{calls_at}
use denote.Triple.Entry.{on_entry}
use denote.Triple.Spec.{Spec, triple_of}
use denote.Triple.Table.{entered}
use denote.Triple.Clauses.{ensured, lasts}
use Rattle.paper.specs.declared.Task.{Task}
use Rattle.paper.specs.declared.Table.{Table}
use Rattle.paper.specs.View.{table_of}
use Rattle.paper.specs.contracts.Task as T
use Rattle.paper.specs.contracts.Table as B
use Rattle.paper.proofs.Table.TheLaws as B'
use Rattle.board.specs.contracts.lent.table_of as table_of
use Rattle.board.proofs.lent.table_of.Symbol as table_of_def
use Rattle.board.proofs.lent.table_of.Symbol.{name as #board·lent·table_of}
use Rattle.board.proofs.lent.table_of.Met as table_of_thm
use Rattle.board.proofs.Locals.{Blocks, Fill, Fit, env_of, begun, enters, gives_back}
use Rattle.board.proofs.Passed.{AllPassed, spells, all_tell, all_lawful, slice_val, mut_slice_val, ptr_val, a_run}

module _ {M : Type 1} {𝓤 : Ura M} where
  -- all that a call has on entry: the run with its lifetime's token, the other lifetimes' tokens, and what the other parameters own
  abbrev pub Lent : Lft → Share → Bor (List Task) → SProp 𝓤 → Fml → Item 𝓤
  Lent κ q s others rest = (‵ (flft κ q) ⊛ raw others) ⊛ ‵ (fsep ((ShrSlice (named 0) κ T.the_row).own_val s (slice_val s ∷ [])) rest)

  -- the same with the table in the run's place
  abbrev pub Handed : Lft → Share → Table → Val → SProp 𝓤 → Fml → Item 𝓤
  Handed κ q t u others rest = ‵ ((B.the_row).own_val t (u ∷ [])) ⊛ (‵ (flft κ q) ⊛ (raw others ⊛ ‵ rest))

  -- a local that holds a vector, and one that holds the pointer to it
  abbrev slice_cell : Lifetime → Ty → ℕ → MutBor (List ℕ) → Item 𝓤
  slice_cell ℓ σ b v = ‵ (fat full_share (slice_ty (ty_ref ℓ mut σ)) b zero (mut_slice_val v))

  abbrev ptr_cell : Lifetime → Ty → ℕ → MutBor (List ℕ) → Item 𝓤
  ptr_cell ℓ σ b v = ‵ (fat full_share (ty_ref ℓ mut σ) b zero (ptr_val v))

-- where local n stands behind one entry of the context
abbrev in_local : ℕ → ℕ
in_local n = suc (n + n)

module _ {M : Type 1} {𝓤 : Ura M} (𝓛 : Logic 𝓤) (mem : Memory → SProp 𝓤) (run : Routine → Fun 𝓤) where
  abbrev TableOf : Contract 𝓤
  TableOf = triple_of 𝓛 table_of.signature (table_of.spec 𝓛 mem run)

  module _ (κ : Lft) (q : Share) (s : Bor (List Task)) where
    abbrev to_table : TableOf.Ghost
    to_table = (((κ, tt), (q, tt), tt, (s, tt), (slice_val s ∷ [], tt)), tt)

    abbrev copied : Val → Item 𝓤
    copied u = later (some (λ (t : Table). ((‵ (flft κ q) ⊛ ‵ ftrue) ⊛ ‵ ((B.the_row).own_val t (u ∷ []))) ⊛ raw
        (ensured 𝓛 table_of.ended (table_of.clauses 𝓛 mem run) (κ, tt) (s, tt) tt t)))

    table_said : (t : Table) → ent 𝓤 (ensured 𝓛 table_of.ended (table_of.clauses 𝓛 mem run) (κ, tt) (s, tt) tt t) (fact 𝓤 (t ≡ table_of s.now))
    table_said t = ex_e 𝓤 _ (λ ws. snd∗ 𝓤 (sem 𝓛 (lasts table_of.ended (κ, tt) (s, tt) ws)) (fact 𝓤 (t ≡ table_of s.now)))

-- what a walk knows of the calls in it: that a frame goes round each, and that the copying meets its contract
pub record Known {M : Type 1} {𝓤 : Ura M} (𝓛 : Logic 𝓤) (C : Calls 𝓤 𝓛.H) (mem : Memory → SProp 𝓤) (run : Routine → Fun 𝓤) : Type 2 where
  pub fm : FmC 𝓤 𝓛.H 𝓛.laws C
  pub table : Triple 𝓤 (C #board·lent·table_of) (TableOf 𝓛 mem run)

module _ {M : Type 1} {𝓤 : Ura M} {𝓛 : Logic 𝓤} {K : Type 0} where
  open 𝓛 use {H}

  stands : K → {Γ : List (Item 𝓤)} {E : Env 𝓤 H} {n : ℕ} {st : List PStep} {sp₀ sp : Spot 𝓤 H}
      → spot_of 𝓤 H E n ≡ sp₀ → Walks K 𝓛 Γ E sp₀ st sp → Finds K 𝓛 Γ E (place n st) sp
  stands k {Γ} {E} {n} {st} {sp₀} {sp} e w = from k (subst (λ (z : Spot 𝓤 H). Walks K 𝓛 Γ E z st sp) (sym e) w)

  stays_in : K → {i j : Item 𝓤} {q : Share} {τ : Ty} {b o : ℕ} {v : Val} {back : Val → Item 𝓤} → i ≡ j → Part K 𝓛 i q τ b o v back → Part K 𝓛 j q τ b o v back
  stays_in k {i} {j} {q} {τ} {b} {o} {v} {back} e part = subst (λ (z : Item 𝓤). Part K 𝓛 z q τ b o v back) e part

  -- An operand of the call that does the work is a local: there local n stands at 2 + 2n.
  pub takes : K → {Γ : List (Item 𝓤)} {E : Env 𝓤 H} {n : ℕ} {q : Share} {v : Val} {xs : List Opd} {vs : List Val}
      → nth 𝓛 (suc (suc (n + n))) Γ ≡ ‵ (fat q (spot_of 𝓤 H E n).0 (spot_of 𝓤 H E n).1 zero v) → Opds K 𝓛 Γ E xs vs → Opds K 𝓛 Γ E (copy (place n []) ∷ xs) (v ∷ vs)
  takes k {n = n} e os = and_then k (load k (from k (stop k)) (look k (suc (suc (n + n))) e)) os

module _ {M : Type 1} {𝓤 : Ura M} {𝓛 : Logic 𝓤} {K : Type 0} {C : Calls 𝓤 𝓛.H} {Λ : Loops 𝓤 𝓛.H} where
  -- The run, which is the first argument, is copied into its local.
  open 𝓛 use {H, A}

  pub copies : K → {mem : Memory → SProp 𝓤} {run : Routine → Fun 𝓤} → Known 𝓛 C mem run → (s : Bor (List Task)) {κ : Lft} {q : Share} {others : SProp 𝓤} {rest : Fml}
      → {i j : Item 𝓤} {Γ : List (Item 𝓤)} {e : Ty × ℕ} {τ : Ty} {b b' : ℕ} {E : Env 𝓤 H} {n : ℕ} {body : Body} {p : Post 𝓤 H}
      → spot_of 𝓤 H (e ∷ (τ, b) ∷ E) n ≡ (B'.mir, b', zero)
      → ((t : Table) (u : Val)
      → nth 𝓛 (in_local n) (Handed κ q t u others rest ∷ i ∷ j ∷ ‵ (fat full_share τ b zero (slice_val s)) ∷ Γ) ≡ ‵ (froom B'.mir b' zero))
      → ((t : Table) (u : Val) → t ≡ table_of s.now
      → Seq K 𝓛 (put 𝓛 (in_local n) (‵ (fat full_share B'.mir b' zero u))
      (Handed κ q t u others rest ∷ i ∷ j ∷ ‵ (fat full_share τ b zero (slice_val s)) ∷ Γ)) (runs C Λ (e ∷ (τ, b) ∷ E) body p))
      → Seq K 𝓛 (Lent κ q s others rest ∷ i ∷ j ∷ ‵ (fat full_share τ b zero (slice_val s)) ∷ Γ)
      (runs C Λ (e ∷ (τ, b) ∷ E) (seq (call #board·lent·table_of (copy (place 1 []) ∷ []) (place n [])) body) p)
  copies k {mem} {run} known s {κ} {q} {n = n} at_n free next =
      split k $ split k $ move k (2 ∷ []) $ fsplit k $ nothing k $ move k (3 ∷ 0 ∷ []) $ join k $ nothing k $ move k (2 ∷ 0 ∷ []) $ fjoin k $
      move k (1 ∷ 0 ∷ []) $ join k $ nothing k $ move k (1 ∷ 0 ∷ []) $ join k $
      -- [what the copying asks; what the others own; their tokens; the locals]
      use1 𝓛 (raw ((TableOf 𝓛 mem run).pre (to_table 𝓛 mem run κ q s))) (id⊢ 𝓤 _) $
      calls_at k known.fm (TableOf 𝓛 mem run) known.table (to_table 𝓛 mem run κ q s)
      (and_then k (load k (from k (stop k)) (look k 5 refl)) (no_more k)) (λ u.
      use1 𝓛 (copied 𝓛 mem run κ q s u) (id⊢ 𝓤 _) $ await k tt $ pick k (λ t. split k $ move k (1 ∷ []) $
      use1 𝓛 (raw (fact 𝓤 (t ≡ table_of s.now))) (table_said 𝓛 mem run κ q s t) $ heard k (t ≡ table_of s.now) (λ e.
      split k $ split k $ move k (2 ∷ []) $ peeks k B.the_row (Is B.the_row) (shows 𝓛 B.the_row) t (u ∷ []) (λ is.
      -- [what the table owns; the run's token; true; what the others own; their tokens; the locals]
      move k (0 ∷ 1 ∷ 4 ∷ 3 ∷ []) $ group k 4 $ move k (1 ∷ []) $ drop k $
      land k (stands k at_n (stop k)) (init k (in_local n) (free t u) ((LL.lawful B.the_type B'.the_laws 𝓛).typed t _ is).0) $ next t u e))))

  -- A vector that was passed is lent on. Each premise is `refl` where the locals are written out.
  pub lends_on : K → {Γ : List (Item 𝓤)} {E : Env 𝓤 H} {m n : ℕ} {σ : Ty} {ℓ ℓ' : Lifetime} {b b₁ b₂ : ℕ} {body : Body} {p : Post 𝓤 H} (v : MutBor (List ℕ))
      → spot_of 𝓤 H E m ≡ (slice_ty (ty_ref ℓ mut σ), b, zero) → spot_of 𝓤 H E n ≡ (ty_ref ℓ' mut σ, b₁, zero)
      → spot_of 𝓤 H E (suc n) ≡ (slice_ty (ty_ref ℓ' mut σ), b₂, zero)
      → nth 𝓛 (in_local m) Γ ≡ slice_cell ℓ σ b v → nth 𝓛 (in_local n) Γ ≡ ‵ (froom (ty_ref ℓ' mut σ) b₁ zero)
      → nth 𝓛 (in_local m) (put 𝓛 (in_local n) (ptr_cell ℓ' σ b₁ v) Γ) ≡ slice_cell ℓ σ b v
      → nth 𝓛 (in_local n) (put 𝓛 (in_local n) (ptr_cell ℓ' σ b₁ v) Γ) ≡ ptr_cell ℓ' σ b₁ v
      → nth 𝓛 (suc (suc (in_local n))) (put 𝓛 (in_local n) (ptr_cell ℓ' σ b₁ v) Γ) ≡ ‵ (froom (slice_ty (ty_ref ℓ' mut σ)) b₂ zero)
      → length v.now < 2 ^ 64
      → Step K 𝓛 (put 𝓛 (suc (suc (in_local n))) (slice_cell ℓ' σ b₂ v) (put 𝓛 (in_local n) (ptr_cell ℓ' σ b₁ v) Γ)) (runs C Λ E body p) Γ
      (runs C Λ E (seq (assign (place n []) (addr_of (place m (field 0 ∷ deref σ ∷ []))))
      (seq (assign (place (suc n) []) (aggregate (copy (place n []) ∷ copy (place m (field 1 ∷ [])) ∷ []))) body)) p)
  lends_on k {m = m} {n = n} v at_m at_n at_next m₀ n₀ m₁ n₁ next₁ few = step (λ s.
      assigns k (addr k (stands k at_m (fld k refl (hop k (look_in k (in_local m) (stays_in k (sym m₀) (sub k 0 refl (whole k)))) (stop k)))))
      (stands k at_n (stop k)) (init k (in_local n) n₀ (tt, tt)) $
      assigns k (agg k (and_then k (load k (stands k at_n (stop k)) (look k (in_local n) n₁)) (and_then k (load k (stands k at_m (fld k refl (stop k)))
      (look_in k (in_local m) (stays_in k (sym m₁) (sub k 1 refl (whole k))))) (no_more k))))
      (stands k at_next (stop k)) (init k (suc (suc (in_local n))) next₁ (tt, (tt, (record { fits = few }, tt)))) $ s)

  -- The function that does the work is called with the table, and its answer is there with what its contract says of it.
  pub answers : K → {mem : Memory → SProp 𝓤} {run : Routine → Fun 𝓤} → Known 𝓛 C mem run → (c : Contract 𝓤) {f : Callee} → Triple 𝓤 (C f) c → (x : c.Ghost)
      → (R : RattleType) (Said : R.Denot → SProp 𝓤) (t : Table) {κ : Lft} {q : Share} {u : Val} {others : SProp 𝓤} {rest : Fml}
      → {Γ : List (Item 𝓤)} {E : Env 𝓤 H} {xs : List Opd} {d : Place} {body : Body} {p : Post 𝓤 H}
      → ent 𝓤 (sep 𝓤 (sep 𝓤 others (sem 𝓛 (fsep ((B.the_row).own_val t (u ∷ [])) rest))) (emp 𝓤)) (c.pre x)
      → ((v : Val) → ent 𝓤 (c.post x v) (H.⇛ (ex 𝓤 (λ (r : R.Denot). sep 𝓤 (sep 𝓤 others (sem 𝓛 (R.own_val r (v ∷ [])))) (Said r)))))
      → Opds K 𝓛 (raw (c.pre x) ∷ ‵ (flft κ q) ∷ Γ) E xs (c.args x)
      → ((r : R.Denot) (v : Val) → Is R r (v ∷ [])
      → Seq K 𝓛 ((‵ (R.own_val r (v ∷ [])) ⊛ (raw (Said r) ⊛ (‵ (flft κ q) ⊛ raw others))) ∷ Γ) (lands C Λ E d v body p))
      → Seq K 𝓛 (Handed κ q t u others rest ∷ Γ) (runs C Λ E (seq (call f xs d) body) p)
  answers k known c met x R Said t {others = others} asked told xs next =
      split k $ move k (1 ∷ []) $ split k $ move k (1 ∷ []) $ split k $ move k (3 ∷ 1 ∷ []) $
      -- [what the table owns; what the others own; their tokens; the run's token; the locals]
      fjoin k $ move k (1 ∷ 0 ∷ []) $ join k $ nothing k $ move k (1 ∷ 0 ∷ []) $ join k $ use1 𝓛 (raw (c.pre x)) asked $
      calls_at k known.fm c met x xs (λ v.
      use1 𝓛 (later (some (λ (r : R.Denot). (raw others ⊛ ‵ (R.own_val r (v ∷ []))) ⊛ raw (Said r)))) (told v) $ await k tt $ pick k (λ r.
      split k $ split k $ move k (1 ∷ []) $ peeks k R (Is R) (shows 𝓛 R) r (v ∷ []) (λ is.
      -- [what the answer owns; the tokens; what is said of the answer; the run's token; the locals]
      move k (0 ∷ 2 ∷ 3 ∷ 1 ∷ []) $ group k 4 $ next r v is)))

  -- That was the last of it: the answer is the call's own, and says of the run what it says of its table.
  pub hands_on : K → (ls : List Local) (bs : Blocks ls) (vs : List Val) {mem : Memory → SProp 𝓤} {run : Routine → Fun 𝓤} → Known 𝓛 C mem run
      → (c : Contract 𝓤) {f : Callee} → Triple 𝓤 (C f) c → (x : c.Ghost) (R : RattleType)
      → ((r : R.Denot) (v : Val) → Is R r (v ∷ []) → Fill ls (v ∷ [])) → (Said : Table → R.Denot → SProp 𝓤)
      → (s : Bor (List Task)) (t : Table) → t ≡ table_of s.now → {κ : Lft} {q : Share} {u : Val} {others : SProp 𝓤} {rest : Fml} {xs : List Opd} {Kf : Val → SProp 𝓤}
      → ent 𝓤 (sep 𝓤 (sep 𝓤 others (sem 𝓛 (fsep ((B.the_row).own_val t (u ∷ [])) rest))) (emp 𝓤)) (c.pre x)
      → ((v : Val) → ent 𝓤 (c.post x v) (H.⇛ (ex 𝓤 (λ (r : R.Denot). sep 𝓤 (sep 𝓤 others (sem 𝓛 (R.own_val r (v ∷ [])))) (Said t r)))))
      → ((v : Val)
      → ent 𝓤 (H.⇛ (ex 𝓤 (λ (r : R.Denot). sep 𝓤 (sep 𝓤 (sep 𝓤 (A.lft κ q) others) (sem 𝓛 (R.own_val r (v ∷ [])))) (Said (table_of s.now) r)))) (Kf v))
      → Opds K 𝓛 (raw (c.pre x) ∷ ‵ (flft κ q) ∷ (begun ls bs vs ++ [])) (env_of ls bs) xs (c.args x)
      → Seq K 𝓛 (Handed κ q t u others rest ∷ (begun ls bs vs ++ [])) (runs C Λ (env_of ls bs) (seq (call f xs (place 0 [])) return) (at_ret (env_of ls bs) Kf))
  hands_on k ls bs vs known c met x R typed Said s t e {κ} {q} {others = others} asked told ends xs =
      answers k known c met x R (Said t) t asked told xs (λ r v is. gives_back k ls bs vs v (typed r v is) $
      suffices k _ (ends v) $ updating k $ at_once k $
      show k (λ (r' : R.Denot). sep 𝓤 (sep 𝓤 (sep 𝓤 (A.lft κ q) others) (sem 𝓛 (R.own_val r' (v ∷ [])))) (Said (table_of s.now) r')) r $
      split k $ move k (1 ∷ []) $ split k $ use1 𝓛 (raw (Said (table_of s.now) r)) (subst (λ (b : Table). ent 𝓤 (Said t r) (Said b r)) e (id⊢ 𝓤 _)) $
      move k (1 ∷ 2 ∷ []) $ join k $ done k)

-- A call whose first argument is the run, and which hands it over: it is enough to walk its code, from the arguments in their locals.
module _ {M : Type 1} {𝓤 : Ura M} (𝓛 : Logic 𝓤) (𝓜 : Model 𝓤 𝓛.H) (𝓡 : Running 𝓤 𝓛.H 𝓜) (env : Routines)
    (called : Wired env table_of_def.code) where
  open 𝓛 use {H}

  abbrev C : Calls 𝓤 H
  C = (tables 𝓤 H 𝓜 𝓡 env).C

  abbrev Λ : Loops 𝓤 H
  Λ = (tables 𝓤 H 𝓜 𝓡 env).Λ

  known : Known 𝓛 C 𝓜.mem 𝓡.returns
  unfolding tables_of
  known = record {
    fm = fm_of 𝓤 H 𝓛.laws (tables_of 𝓤 H 𝓜 (tables 𝓤 H 𝓜 𝓡 env));
    table = table_of_thm.met 𝓤 𝓛 𝓜 (within 𝓤 H 𝓜 𝓡 env) called;
  }

  module _ (n : ℕ) (os : List (Outlives (suc n))) (ss : List (Slot (suc n))) (result : Slot (suc n)) where
    abbrev S : Signature
    S = record { lifetimes = suc n; outlives = os; params = shr_slice_of (0 ∷ []) tt (plain (λ _. T.the_row)) ∷ ss; result = result }

    module _ (c : Spec 𝓤 S) (ps : (κs : Lfts (suc n)) → AllPassed (types_at ss κs)) where
      abbrev Call : Contract 𝓤
      Call = triple_of 𝓛 S c

      -- the machine values of the other arguments, and of all
      abbrev others_at : (κs : Lfts (suc n)) → Denots (types_at ss κs) → Valss (types_at ss κs)
      others_at κs a = valss (types_at ss κs) (spells (types_at ss κs) (ps κs)) a

      abbrev values : Call.Ghost → List Val
      values y = slice_val y.0.3.0 ∷ flat (types_at ss y.0.0) (others_at y.0.0 y.0.3.1)

      abbrev Entry : Call.Ghost → Item 𝓤
      Entry y = Lent y.0.0.0 y.0.1.0 y.0.3.0 (toks 𝓛 n y.0.0.1 y.0.1.1)
          (owns (types_at ss y.0.0) y.0.3.1 (others_at y.0.0 y.0.3.1))

      pub lending : (key : Callee) (fn : Fn) → Closed 𝓤 H C Λ key fn
          → ((y : Call.Ghost) → Typed (mirs (types_at S.params y.0.0)) (values y) → Fit fn.locals (values y))
          → ((y : Call.Ghost) → Are (types_at ss y.0.0) (Ises (types_at ss y.0.0)) y.0.3.1 (others_at y.0.0 y.0.3.1)
          → Known 𝓛 C 𝓜.mem 𝓡.returns → (bs : Blocks fn.locals)
          → Sq 𝓛 (Entry y ∷ (begun fn.locals bs (values y) ++ [])) (runs C Λ (env_of fn.locals bs) fn.body (at_ret (env_of fn.locals bs) (Call.post y))))
          → Triple 𝓤 (C key) Call
      lending key fn closed fits walk = entered 𝓤 H Call C Λ key fn closed (λ y.
          let κs : Lfts (suc n) = y.0.0 in
          let Rs : List RattleType = types_at S.params κs in
          let all : AllPassed (types_at S.params κs) = (a_run κs.0, ps κs) in
          via 𝓤 (on_entry 𝓛 S κs y.0.1 y.0.3 y.0.4) (fst∗ 𝓤 _ ((c κs y.0.3).requires y.1))
          (said 𝓛 S κs y.0.1 (spells Rs all) (all_tell Rs all) y.0.3 (λ vss. WpFn 𝓤 H C Λ fn (flat Rs vss) (Call.post y)) y.0.4 (λ are.
          qed 𝓛 (Entry y ∷ []) ∵ enters ! C Λ fn (values y) (Call.post y)
          (fits y (all_Typed 𝓛 Rs (all_lawful 𝓛 Rs all) y.0.3 _ are)) (λ bs. walk y are.1 known bs))))
