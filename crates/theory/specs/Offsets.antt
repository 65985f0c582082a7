-- Every period divides the window: so the first request, the units due and the releases are those of the offset, a whole number of
-- windows later.
use Rattle.std.specs.Prelude.{ℕ, suc, ◌+◌, ◌*◌, ◌/◌, ◌%◌, ◌<◌, ◌≡◌, Bool, true, false, cond, leb, eqb}
use Rattle.std.proofs.Math.Path.{refl}
use Rattle.std.proofs.Common.{sym, ap, ◌∙◌, inl, inr, arith, div-add-mod', mod-lt, le-leb, eq-eqb, ne_eqb}
use mathlib.Core.List.{List, [], ◌∷◌}
use Rattle.std.proofs.Math.Nat.{dvd-mul_left, mod-mod_of_dvd}
use Rattle.std.proofs.lemmas.Bool.{lt-leb}
use Rattle.paper.specs.declared.Task.{Task}
use Rattle.paper.specs.Demand.{pick, AllGood, deadline_at, present_due}
use Rattle.paper.specs.Window.{window}
use Rattle.paper.specs.Rule.{First, none_left, first-is, better, first, enter}
use Rattle.theory.specs.Counting.{test, deadline_shift, Tick, starts, goes_on, tick}
use Rattle.theory.specs.Tables.{Divide, divide_trans}
use Rattle.theory.specs.WindowLaws.{window-divides}
use Rattle.theory.specs.DueBy.{due_by, late_first}

-- its deadline b later
abbrev pub later_by : ℕ → First → First
later_by b none_left = none_left
later_by b (first-is j d) = first-is j (b + d)

leb_shift : (b d e : ℕ) → leb (b + d) (b + e) ≡ leb d e
leb_shift b d e = elim (test d e) [
  | inl y ↦ rw y.0 (le-leb (b + d) (b + e) (omega arith))
  | inr n ↦ rw n.0 (lt-leb (b + d) (b + e) (omega arith))
]

-- The first request is late at a slot exactly if it is at the offset.
pub late_shift : (b u : ℕ) (f : First) → late_first (later_by b f) (b + u) ≡ late_first f u
late_shift b u none_left = refl
late_shift b u (first-is j d) = leb_shift b d u

cond_shift : (c : Bool) (b d e i j : ℕ)
    → cond c (first-is i (b + d)) (first-is j (b + e)) ≡ later_by b (cond c (first-is i d) (first-is j e))
cond_shift true b d e i j = refl
cond_shift false b d e i j = refl

better_shift : (c : Bool) (b d : ℕ) (f : First) → better c (b + d) (later_by b f) ≡ later_by b (better c d f)
better_shift false b d none_left = refl
better_shift false b d (first-is j e) = refl
better_shift true b d none_left = refl
better_shift true b d (first-is j e) = rw (leb_shift b d e) (cond_shift (leb d e) b d e 0 (suc j))

module _ (b v : ℕ) where
  first-shift : (ts : List Task) (ls : List ℕ) → AllGood ts → Divide ts b → first ts ls (b + v) ≡ later_by b (first ts ls v)
  unfolding first
  first-shift [] ls g d = refl
  first-shift (t ∷ ts) [] g d = refl
  first-shift (t ∷ ts) (l ∷ ls) g d =
      rw (deadline_shift t g.0 b v d.0, first-shift ts ls g.1 d.1)
      (better_shift (leb 1 l) b (deadline_at t v) (first ts ls v))

  due-shift : (u : ℕ) (ts : List Task) (ls : List ℕ) → AllGood ts → Divide ts b → due_by ts ls (b + v) (b + u) ≡ due_by ts ls v u
  unfolding due_by present_due
  due-shift u [] ls g d = refl
  due-shift u (t ∷ ts) [] g d = refl
  due-shift u (t ∷ ts) (l ∷ ls) g d =
      rw (deadline_shift t g.0 b v d.0, leb_shift b (deadline_at t v) u, due-shift u ts ls g.1 d.1)

enter-mod : (W at : ℕ) (ts : List Task) (ls : List ℕ) → Divide ts W → enter ts (at % W) ls ≡ enter ts at ls
unfolding enter
enter-mod W at [] ls d = refl
enter-mod W at (t ∷ ts) [] d = rw (mod-mod_of_dvd t.period at d.0, enter-mod W at ts [] d.1)
enter-mod W at (t ∷ ts) (l ∷ ls) d = rw (mod-mod_of_dvd t.period at d.0, enter-mod W at ts ls d.1)

module _ (ts : List Task) (good : AllGood ts) (ls : List ℕ) (now : ℕ) where
  abbrev start : ℕ
  start = now / window ts * window ts

  parts : start + now % window ts ≡ now
  parts = div-add-mod' now (window ts)

  divides : Divide ts start
  divides = divide_trans ts (window ts) start (window-divides ts) (dvd-mul_left (window ts) (now / window ts))

  -- the first request, from the window's start on
  pub first-offset : first ts ls now ≡ later_by (now / window ts * window ts) (first ts ls (now % window ts))
  first-offset = ap (λ (n : ℕ). first ts ls n) (sym parts) ∙ first-shift start (now % window ts) ts ls good divides

  -- whether it is late
  pub late_offset : late_first (first ts ls now) now ≡ late_first (first ts ls (now % window ts)) (now % window ts)
  late_offset =
      let f = first ts ls (now % window ts) in
      ap (λ (x : First). late_first x now) first-offset
      ∙ ap (λ (n : ℕ). late_first (later_by start f) n) (sym parts)
      ∙ late_shift start (now % window ts) f

  -- the units due by the next now
  pub due-offset : due_by ts ls now (suc now) ≡ due_by ts ls (now % window ts) (suc (now % window ts))
  due-offset =
      let v = now % window ts in
      let e : start + suc v ≡ suc now = omega (arith, parts) in
      ap (λ (n : ℕ). due_by ts ls n (suc now)) (sym parts)
      ∙ ap (λ (n : ℕ). due_by ts ls (start + v) n) (sym e)
      ∙ due-shift start v (suc v) ts ls good divides

-- the releases at a time
pub enter-offset : (ts : List Task) (ls : List ℕ) (at : ℕ) → enter ts (at % window ts) ls ≡ enter ts at ls
enter-offset ts ls at = enter-mod (window ts) at ts ls (window-divides ts)

-- the next offset
pub next-offset : (W now : ℕ) → 0 < W → suc now % W ≡ pick (eqb (suc (now % W)) W) 0 (suc (now % W))
next-offset W now h = go (tick W now h)
  where
    go : Tick W now → suc now % W ≡ pick (eqb (suc (now % W)) W) 0 (suc (now % W))
    go (starts z q m) =
        let e : suc (now % W) ≡ W = omega (arith, div-add-mod' now W) in
        rw (z, eq-eqb (suc (now % W)) W e)
    go (goes_on z q m) =
        rw (m, ne_eqb (suc (now % W)) W (λ e. absurd (omega (arith, mod-lt (suc now) h))))
