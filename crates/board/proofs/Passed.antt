-- How an argument of each type is passed: its one machine value, written out, and that it is of the type of its local.
use mathlib.Core.List.{List, [], ◌∷◌}
use Prim.Native.Nat.{ℕ}
use lib.ListN.{length}
use seplogic.Ra.Ura.{Ura}
use mir.Syntax.{named, w16}
use mir.Val.{Val, vint, vptr}
use base.Fml.{Lft}
use types.Logic.{Logic}
use denote.RattleType.{RattleType}
use denote.Laws.{Is, Ises, Tells, Tellss, Spells, Lawful, Lawfuls}
use denote.Plain.{uint_Tells, uint_Lawful}
use denote.Builtin.{u16}
use denote.Ref.{Bor, MutBor, MutRef, mut_Tells, mut_Lawful}
use denote.Slice.{slice_val as slice_at, ShrSlice, MutSlice, shr_slice_Tells, shr_slice_Lawful, mut_slice_Tells, mut_slice_Lawful}
use denote.Struct.Laws as LL
use denote.Enum.Laws as EL
use Rattle.paper.specs.contracts.Task as T
use Rattle.paper.specs.contracts.State as S
use Rattle.paper.proofs.State.TheLaws as S'
use Rattle.paper.specs.contracts.Latest as L
use Rattle.paper.proofs.Latest.TheLaws as L'

pub record Passed (R : RattleType) : Type 2 where
  pub value : R.Denot → Val
  pub tells : Tells R (Is R) (λ x. value x ∷ [])
  pub lawful : {M : Type 1} {𝓤 : Ura M} (𝓛 : Logic 𝓤) → Lawful 𝓛 R

-- ---- for all of a function's parameters
abbrev pub AllPassed : List RattleType → Type 2
AllPassed [] = Unit {2}
AllPassed (R ∷ Rs) = Passed R × AllPassed Rs

abbrev pub spells : (Rs : List RattleType) → AllPassed Rs → Spells Rs
spells [] ps = tt
spells (R ∷ Rs) ps = ((λ x. ps.0.value x ∷ []), spells Rs ps.1)

pub all_tell : (Rs : List RattleType) (ps : AllPassed Rs) → Tellss Rs (Ises Rs) (spells Rs ps)
all_tell [] ps = tt
all_tell (R ∷ Rs) ps = (ps.0.tells, all_tell Rs ps.1)

pub all_lawful : {M : Type 1} {𝓤 : Ura M} (𝓛 : Logic 𝓤) → (Rs : List RattleType) → AllPassed Rs → Lawfuls 𝓛 Rs
all_lawful 𝓛 [] ps = tt
all_lawful 𝓛 (R ∷ Rs) ps = (ps.0.lawful 𝓛, all_lawful 𝓛 Rs ps.1)

-- ---- the types that the board's calls take
abbrev pub slice_val : {X : Type 0} → Bor (List X) → Val
slice_val v = slice_at v.ref_ptr (length v.now)

abbrev pub mut_slice_val : {X : Type 0} → MutBor (List X) → Val
mut_slice_val v = slice_at v.ref_ptr (length v.now)

abbrev pub ptr_val : {X : Type 0} → MutBor X → Val
ptr_val v = vptr v.ref_ptr.0 v.ref_ptr.1

-- the run, which is the first argument
abbrev pub a_run : (κ : Lft) → Passed (ShrSlice (named 0) κ T.the_row)
a_run κ = record { value = slice_val; tells = shr_slice_Tells (named 0) κ T.the_row; lawful = λ 𝓛. shr_slice_Lawful 𝓛 (named 0) κ T.the_row }

-- a lent vector, at the lifetime of that number
abbrev pub a_vector : (n : ℕ) (κ : Lft) → Passed (MutSlice (named n) κ u16)
a_vector n κ = record { value = mut_slice_val; tells = mut_slice_Tells (named n) κ u16; lawful = λ 𝓛. mut_slice_Lawful 𝓛 (named n) κ u16 }

abbrev pub a_state : Passed S.the_row
a_state = record { value = LL.val S.the_type S'.the_laws; tells = LL.tells S.the_type S'.the_laws; lawful = LL.lawful S.the_type S'.the_laws }

-- the state where the board keeps it
abbrev pub the_state : (κ : Lft) → Passed (MutRef (named 1) κ S.the_row)
the_state κ = record { value = ptr_val; tells = mut_Tells (named 1) κ S.the_row; lawful = λ 𝓛. mut_Lawful 𝓛 (named 1) κ S.the_row }

abbrev pub a_work : Passed u16
a_work = record { value = vint w16; tells = uint_Tells w16; lawful = λ 𝓛. uint_Lawful 𝓛 w16 }

abbrev pub a_latest : Passed L.the_row
a_latest = record {
  value = EL.val L.the_type L'.the_laws;
  tells = EL.tells L.the_type L'.the_laws;
  lawful = λ 𝓛. EL.lawful L.the_type L'.the_laws 𝓛 tt;
}
