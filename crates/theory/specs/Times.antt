-- The times that the places of Y stand for: K, but v at the present place h. There are as many as places of K, the ones after h
-- lie after v, and h is counted among the places after the first, which is 0.
use Prim.Native.Nat.{ℕ, zero, suc, ◌+◌, ◌-◌, ◌≤◌, ◌<◌}
use Rattle.std.specs.Prelude.{◌≡◌, Bool, true, false, leb, length, take, get_or, replicate}
use Rattle.std.proofs.Common.{sym, ap, subst, ◌∙◌, get_or-drop, length-take-le}
use mathlib.Core.List.{List, [], ◌∷◌, ◌++◌}
use native.Mathlib.Omega.{arith}
use Rattle.std.proofs.Math.ListN.{drop, length-append, length-drop, length-replicate}
use Rattle.std.proofs.Math.Seq.{drop_at}
use Rattle.paper.specs.declared.Task.{Task}
use Rattle.paper.specs.Demand.{pick}
use Rattle.paper.specs.Window.{window}
use Rattle.paper.specs.Places.{is_deadline, keep, places_in, K}
use Rattle.paper.specs.Vectors.{places_up_to, here, times_from, times, above_static, above_moving, Y_from, D, Y}
use Rattle.paper.specs.Idle.{reach}
use Rattle.theory.specs.Lent.{vec-length}
use Rattle.theory.specs.Counting.{pick_le}
use Rattle.theory.specs.PlaceLaws.{places_after, reach-zeros}

-- K has a first place, which is 0
pub K-some : (ts : List Task) → 1 ≤ length (K ts)
unfolding K
K-some ts = omega arith

-- Place h counts the deadlines of the window up to v.
pub here-is : (ts : List Task) (v : ℕ) → here ts v ≡ places_up_to v (places_in (is_deadline ts) 0 (window ts))
unfolding here K places_up_to
here-is ts v = omega (arith, pick_le {a = 0} {b = v} 1 0 (omega arith))

-- The times from place h on are v, and the deadlines after it.
pub times_from-is : (ts : List Task) (v : ℕ) → v ≤ window ts → times_from ts v ≡ v ∷ places_in (is_deadline ts) v (window ts - v)
unfolding times_from K
times_from-is ts v h =
    rw here-is (ap (λ (l : List ℕ). v ∷ l) (places_after (is_deadline ts) v (window ts) 0 (window ts) (omega arith) h (omega arith)))

-- Place h is counted among the places after the first.
pub here-rest : (ts : List Task) (v : ℕ) → here ts v ≡ places_up_to v (drop 1 (K ts))
unfolding K
here-rest ts v = here-is ts v

module _ (v : ℕ) where
  count-step : (b : Bool) (n m : ℕ) → n ≤ m → pick b 1 0 + n ≤ suc m
  count-step true n m h = omega arith
  count-step false n m h = omega arith

  -- At most all places lie up to v.
  pub count_most : (ks : List ℕ) → places_up_to v ks ≤ length ks
  unfolding places_up_to
  count_most [] = omega arith
  count_most (k ∷ ks) = count-step (leb k v) (places_up_to v ks) (length ks) (count_most ks)

-- The places before h are as many as the zeros before it.
pub before_length : (ts : List Task) (v : ℕ) → length (take (here ts v) (K ts)) ≡ here ts v
unfolding here
before_length ts v = length-take-le (places_up_to v (K ts) - 1) (K ts) (omega (arith, count_most v (K ts)))

-- A need is reached where it is reached from place h on: the entries before are 0.
pub reach-Y : (ts : List Task) (ls : List ℕ) (v n : ℕ) → 0 < n
    → reach (times ts v) (Y ts ls v) 0 n ≡ reach (times_from ts v) (Y_from ts ls v) 0 n
unfolding Y times
reach-Y ts ls v n h =
    let js = take (here ts v) (K ts) in
    subst (λ (m : ℕ). reach (js ++ times_from ts v) (replicate m 0 ++ Y_from ts ls v) 0 n ≡ reach (times_from ts v) (Y_from ts ls v) 0 n)
    (before_length ts v) (reach-zeros n js (times_from ts v) (Y_from ts ls v) 0 h)

-- Place h is one of the places.
pub here_in : (ts : List Task) (v : ℕ) → here ts v < length (K ts)
here_in ts v = omega (arith, here-rest ts v, count_most v (drop 1 (K ts)), length-drop 1 (K ts), K-some ts)

-- ---- the times

module _ (ts : List Task) (v : ℕ) where
  -- From place h on, the times are v and the places after it.
  pub times-drop : drop (here ts v) (times ts v) ≡ times_from ts v
  unfolding times
  times-drop = drop_at (take (here ts v) (K ts)) (times_from ts v) (here ts v) (before_length ts v)

  times-at : (i : ℕ) → get_or (times ts v) (here ts v + i) 0 ≡ get_or (times_from ts v) i 0
  times-at i = sym (get_or-drop (here ts v) (times ts v) i 0) ∙ ap (λ (l : List ℕ). get_or l i 0) times-drop

  -- Place h stands for v.
  pub time_here : get_or (times ts v) (here ts v) 0 ≡ v
  unfolding times_from
  time_here =
      let e : here ts v + 0 ≡ here ts v = omega arith in
      rw e at (times-at 0)

  -- A later place stands for its K.
  pub time_later : (i : ℕ) → here ts v < i → get_or (times ts v) i 0 ≡ get_or (K ts) i 0
  unfolding times_from
  time_later i h =
      let j = i - suc (here ts v) in
      let e : here ts v + suc j ≡ i = omega arith in
      let f : suc (here ts v) + j ≡ i = omega arith in
      rw e at (times-at (suc j)) ∙ (rw f at (get_or-drop (suc (here ts v)) (K ts) j 0))

  -- Y has as many entries as K has places.
  pub Y-length : (ls : List ℕ) → length (Y ts ls v) ≡ length (K ts)
  unfolding Y Y_from times_from
  Y-length ls =
      let W = window ts in
      omega (
        arith,
        length-append {A = ℕ} (replicate (here ts v) 0) (Y_from ts ls v),
        length-replicate {A = ℕ} (here ts v) 0,
        vec-length (above_moving ts ls v W) W (v ∷ drop (suc (here ts v)) (K ts)),
        length-drop (suc (here ts v)) (K ts),
        here_in ts v,
      )

-- So has D.
pub D-length : (ts : List Task) → length (D ts) ≡ length (K ts)
unfolding D
D-length ts = vec-length (above_static ts (window ts)) (window ts) (K ts)

-- ---- the places after h lie after v

module _ (p : ℕ → Bool) where
  keep_after : (b : Bool) (k j i : ℕ) (js : List ℕ) → k < j → ((i : ℕ) → i < length js → k < get_or js i 0)
      → i < length (keep b j js) → k < get_or (keep b j js) i 0
  keep_after true k j zero js h q l = h
  keep_after true k j (suc i) js h q l = q i (omega arith)
  keep_after false k j i js h q l = q i l

  -- A place after m lies above each k up to m.
  pub places_above : (k m n i : ℕ) → k ≤ m → i < length (places_in p m n) → k < get_or (places_in p m n) i 0
  unfolding places_in
  places_above k m zero i h l = absurd (omega arith)
  places_above k m (suc n) i h l =
      keep_after (p (suc m)) k (suc m) i (places_in p (suc m) n) (omega arith) (λ j. places_above k (suc m) n j (omega arith)) l

-- Every place after h lies after v.
pub later_after : (ts : List Task) (v i : ℕ) → v ≤ window ts → here ts v < i → i < length (K ts) → v < get_or (K ts) i 0
unfolding times_from
later_after ts v i h a b =
    let j = i - suc (here ts v) in
    let f : suc (here ts v) + j ≡ i = omega arith in
    let e : drop (suc (here ts v)) (K ts) ≡ places_in (is_deadline ts) v (window ts - v)
    = ap (drop 1) (times_from-is ts v h) in
    let g : get_or (K ts) i 0 ≡ get_or (drop (suc (here ts v)) (K ts)) j 0 = rw f at (sym (get_or-drop (suc (here ts v)) (K ts) j 0)) in
    let n : j < length (places_in (is_deadline ts) v (window ts - v)) = rw (← e) (rw (length-drop (suc (here ts v)) (K ts)) (omega arith)) in
    rw (g, e) (places_above (is_deadline ts) v v (window ts - v) j (omega arith) n)
