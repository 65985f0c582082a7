-- The places that a walk from the last down passes: how many are not after v, what is known at each, and that no deadline lies
-- between one and the next.
use Prim.Native.Nat.{ℕ, zero, suc, ◌+◌, ◌-◌, ◌≤◌, ◌<◌}
use mathlib.Core.Path.{◌≡◌, refl, sym, ap, ◌∙◌}
use mathlib.Core.Bool.{Bool, true, false}
use mathlib.Core.List.{List, [], ◌∷◌, ◌++◌, append_assoc}
use native.Mathlib.Omega.{arith}
use native.Mathlib.Decide.{ℕ_discrete, dec_le}
use lib.Dec.{leb}
use lib.ListN.{length, take, drop, get_or, set, replicate, length-drop}
use lib.Seq.{drop_at, length-take-le, get_or-drop}
use Rattle.std.specs.Prelude.{count_by, cond}
use Rattle.std.proofs.lemmas.List.Recursion.{is_count_by}
use Rattle.paper.specs.declared.Task.{Task}
use Rattle.paper.specs.declared.Table.{Table}
use Rattle.paper.specs.Demand.{pick, AllGood}
use Rattle.paper.specs.Window.{window}
use Rattle.paper.specs.Places.{is_deadline, keep, places_in, K}
use Rattle.paper.specs.Vectors.{vec, places_up_to, here, times_from, times, Y_from, Y}
use Rattle.paper.specs.View.{tasks_of}
use Rattle.paper.specs.Calls.{filled}
use Rattle.theory.specs.PlaceLaws.{entry, vec-cons}
use Rattle.theory.specs.Lent.{put_before, K-most}
use Rattle.theory.specs.Ready.{Ready}
use Rattle.theory.specs.Times.{times_from-is, here-rest, here_in, times-drop, time_later, later_after, Y-length}
use Rattle.theory.specs.Lasts.{lasts, highest, highest-le, highest-loud}

-- how many places are not after v, as a chain counts them
pub places_counted : (v : ℕ) (ks : List ℕ) → places_up_to v ks ≡ count_by (λ (k : ℕ). leb k v) ks
unfolding places_up_to
places_counted v ks = is_count_by (places_up_to v) (λ (k : ℕ). leb k v) refl (λ k ks. counted (leb k v) (places_up_to v ks)) ks
  where
    counted : (b : Bool) (n : ℕ) → pick b 1 0 + n ≡ cond b (1 + n) n
    counted true n = refl
    counted false n = omega arith

-- what is known at place j, after place h
pub record Turn (t : Table) (W v j : ℕ) (k : List ℕ) : Type 0 where
  pub is_place : get_or k j 0 ≡ get_or (K (tasks_of t)) j 0
  pub is_time : get_or (times (tasks_of t) v) j 0 ≡ get_or k j 0
  pub after : v < get_or k j 0
  pub inside : get_or k j 0 ≤ W

pub turn_at : (t : Table) (W v h j : ℕ) (k : List ℕ) → Ready t W → v < W → k ≡ K (tasks_of t) → h ≡ here (tasks_of t) v → h < j → j < length k
    → Turn t W v j k
turn_at t W v h j k y vW e q hj jk =
    let ts = tasks_of t in
    let w = y.is_window in
    let p : get_or k j 0 ≡ get_or (K ts) j 0 = ap (λ (x : List ℕ). get_or x j 0) e in
    let l : here ts v < j = omega arith in
    record {
      is_place = p;
      is_time = time_later ts v j l ∙ sym p;
      after = omega (arith, later_after ts v j (omega arith) l (omega (arith, ap length e)));
      inside = omega (arith, K-most ts j);
    }

-- ---- from a place to the next one down

-- nothing between lo and hi passes the test
abbrev pub Gap : (ℕ → Bool) → ℕ → ℕ → Type 0
Gap p lo hi = (lo < hi) × ((m : ℕ) → lo < m → m < hi → p m ≡ false)

module _ (p : ℕ → Bool) (e : ℕ) where
  gap_keep : (b : Bool) (a j : ℕ) (js : List ℕ) → p (suc a) ≡ b
      → ((i : ℕ) → i ≤ length js → Gap p (get_or (suc a ∷ js) i 0) (get_or js i e))
      → j ≤ length (keep b (suc a) js) → Gap p (get_or (a ∷ keep b (suc a) js) j 0) (get_or (keep b (suc a) js) j e)
  gap_keep true a zero js q r l = (omega arith, λ m x y. absurd (omega arith))
  gap_keep true a (suc j) js q r l = r j (omega arith)
  gap_keep false a zero js q r l =
      let f = r 0 (omega arith) in
      (omega arith, λ m x y. elim (ℕ_discrete m (suc a)) [ yes z ↦ rw z q | no z ↦ f.1 m (omega arith) y ])
  gap_keep false a (suc j) js q r l = r (suc j) l

  gap_in : (a n j : ℕ) → suc (a + n) ≡ e → j ≤ length (places_in p a n) → Gap p (get_or (a ∷ places_in p a n) j 0) (get_or (places_in p a n) j e)
  unfolding places_in
  gap_in a zero zero q l = (omega arith, λ m x y. absurd (omega arith))
  gap_in a zero (suc j) q l = absurd (omega arith)
  gap_in a (suc n) j q l = gap_keep (p (suc a)) a j (places_in p (suc a) n) refl (λ i. gap_in (suc a) n i (omega arith)) l

-- between the time of place i − 1 and place i, or the window's end, lies no deadline
pub gap_before : (ts : List Task) (v i : ℕ) → v ≤ window ts → here ts v < i → i ≤ length (K ts)
    → Gap (is_deadline ts) (get_or (times ts v) (i - 1) 0) (get_or (K ts) i (suc (window ts)))
gap_before ts v i vW h l =
    let W = window ts in
    let q = here ts v in
    let j = i - suc q in
    let ps = places_in (is_deadline ts) v (W - v) in
    let f = times_from-is ts v vW in
    let rest : drop (suc q) (K ts) ≡ ps = unfold times_from in ap (drop 1) f in
    let lo : get_or (v ∷ ps) j 0 ≡ get_or (times ts v) (i - 1) 0
    = ap (λ (x : List ℕ). get_or x j 0) (sym (times-drop ts v ∙ f)) ∙ get_or-drop q (times ts v) j 0 ∙ ap (λ (m : ℕ). get_or (times ts v) m 0) (omega arith) in
    let hi : get_or ps j (suc W) ≡ get_or (K ts) i (suc W)
    = ap (λ (x : List ℕ). get_or x j (suc W)) (sym rest) ∙ get_or-drop (suc q) (K ts) j (suc W) ∙ ap (λ (m : ℕ). get_or (K ts) m (suc W)) (omega arith) in
    rw (lo, hi) at (gap_in (is_deadline ts) (suc W) v (W - v) j (omega arith) (omega (arith, ap length rest, length-drop (suc q) (K ts))))

-- whatever the default, within the list
pub at_any : (l : List ℕ) (i d e : ℕ) → i < length l → get_or l i d ≡ get_or l i e
at_any [] i d e h = absurd (omega arith)
at_any (x ∷ l) zero d e h = refl
at_any (x ∷ l) (suc i) d e h = at_any l i d e (omega arith)

-- so none of the last deadlines by a time u between them is above lo
pub lasts-low : (ts : List Task) (lo hi u : ℕ) → AllGood ts → Gap (is_deadline ts) lo hi → u < hi → highest (lasts ts u) ≤ lo
lasts-low ts lo hi u g f h = elim (dec_le (highest (lasts ts u)) lo) [
  | yes l ↦ l
  | no l ↦
      (let a = highest-loud ts u g (omega arith) in
      let b = f.1 (highest (lasts ts u)) (omega arith) (omega (arith, highest-le ts u g)) in
      let z : ◌≡◌ {A = ℕ} 0 1 = cc in
      absurd (omega arith))
]

-- ---- the whole vector

pub here-is : (ts : List Task) (v : ℕ) (k : List ℕ) → k ≡ K ts → places_up_to v (drop 1 k) ≡ here ts v
here-is ts v k e = rw e (sym (here-rest ts v))

-- the entry of place h, which stands for v, is put before those after it
pub first-put : (A : ℕ → ℕ) (W v h n x : ℕ) (ks y₀ y : List ℕ) → x ≡ entry A W v ks → h < length y₀
    → y ≡ take (suc h) y₀ ++ (vec A W ks ++ drop n y₀) → set y h x ≡ take h y₀ ++ (vec A W (v ∷ ks) ++ drop n y₀)
first-put A W v h n x ks y₀ y e l q =
    let d : suc h - 1 ≡ h = omega arith in
    rw (q, vec-cons A W v ks, ← e) (rw d at (put_before y₀ (vec A W ks ++ drop n y₀) (suc h) 0 x (omega arith) (omega arith)))

-- the entries from place h on are put in, and then zeros before it
pub made : (ts : List Task) (ls : List ℕ) (v n h : ℕ) (y : List ℕ) → h ≡ here ts v → n ≡ length (K ts) → n ≤ length y
    → replicate h 0 ++ drop h (take h y ++ (Y_from ts ls v ++ drop n y)) ≡ filled (Y ts ls v) y
unfolding Y
made ts ls v n h y e f g =
    let long : length (take h y) ≡ h = length-take-le h y (omega (arith, here_in ts v)) in
    let q : length (replicate (here ts v) 0 ++ Y_from ts ls v) ≡ n = Y-length ts v ls ∙ sym f in
    rw (drop_at (take h y) (Y_from ts ls v ++ drop n y) h long, q, e) (sym (append_assoc (replicate (here ts v) 0) (Y_from ts ls v) (drop n y)))
