-- 9's first rule in the code's terms: a place after the present one, and the idle slots of the places after it.
use Prim.Native.Nat.{ℕ, suc, ◌+◌, ◌-◌, ◌%◌, ◌≤◌, ◌<◌}
use mathlib.Core.Path.{◌≡◌, refl, sym, ap, ◌∙◌}
use Rattle.std.specs.Prelude.{Option, None, Some}
use mathlib.Core.List.{List, ◌∷◌}
use native.Mathlib.Nat.{mod-lt}
use native.Mathlib.Omega.{arith}
use lib.Dec.{ltb}
use lib.ListN.{length, take, drop, get_or, replicate, length-replicate}
use lib.Seq.{get_or-append-add}
use Rattle.std.proofs.lemmas.List.{get_or-drop, length-drop, take_rest}
use Rattle.paper.specs.declared.Offset.{Offset}
use Rattle.paper.specs.declared.Task.{Task}
use Rattle.paper.specs.declared.State.{State}
use Rattle.paper.specs.Window.{window}
use Rattle.paper.specs.Places.{K}
use Rattle.paper.specs.Vectors.{sum, vec, above_moving, here, times_from, Y_from, Y}
use Rattle.paper.specs.View.{view_of, tasks_of}
use Rattle.paper.specs.Refusals.{overfull_at}
use Rattle.theory.specs.Lent.{K-most, sum-most}
use Rattle.theory.specs.Ready.{ready_pos}
use Rattle.theory.specs.PlaceLaws.{sum-Y, entry, vec-cons}
use Rattle.theory.specs.Times.{here_in, later_after, Y-length}
use Rattle.theory.specs.Overfull.{first_among, plus, overfull_places, none_overfull}
use Rattle.window.specs.declared.Windowed.{Windowed}
use Rattle.moving.specs.declared.Made.{Made}
use Rattle.moving.specs.Above.{lefts_of, From}
use Rattle.fit.specs.Ground.{Ground, start_of, found_from}

-- ---- the present place and those after it

module _ (ts : List Task) (ls : List ℕ) (v : ℕ) where
  abbrev A : ℕ → ℕ
  A = above_moving ts ls v (window ts)

  abbrev after : List ℕ
  after = drop (suc (here ts v)) (K ts)

  present-entry : get_or (Y ts ls v) (here ts v) 0 ≡ entry A (window ts) v after
  unfolding Y Y_from times_from
  present-entry =
      let zeros : List ℕ = replicate (here ts v) 0 in
      let z : length zeros ≡ here ts v = length-replicate {A = ℕ} (here ts v) 0 in
      let i : length zeros + 0 ≡ here ts v = omega arith in
      rw i at (get_or-append-add zeros (vec A (window ts) (v ∷ after)) 0 0) ∙ rw (vec-cons A (window ts) v after)

  from_sum : sum (Y_from ts ls v) ≡ entry A (window ts) v after + sum (vec A (window ts) after)
  unfolding Y_from times_from sum
  from_sum = rw (vec-cons A (window ts) v after)

  pub from_most : sum (Y_from ts ls v) ≤ window ts
  unfolding Y_from
  from_most = sum-most A (window ts) (times_from ts v)

  later_sum : sum (Y ts ls v) ≡ get_or (Y ts ls v) (here ts v) 0 + sum (vec A (window ts) after)
  later_sum = omega (arith, sum-Y ts ls v, present-entry, from_sum)

module _ (w : Windowed) (s : State) (made : Made) (k y : List ℕ) (g : Ground w s made k y) where
  abbrev ts : List Task
  ts = tasks_of w.within.table

  abbrev ls : List ℕ
  ls = (view_of w.within.table.count s).lefts

  abbrev now : ℕ
  now = s.now.0 % window ts

  window-is : w.window ≡ window ts
  window-is = w.ready.is_window

  here-is : made.here ≡ here ts now
  here-is = ap (λ (m : Made). m.here) g.numbers

  left_is : made.left ≡ sum (Y ts ls now)
  left_is = ap (λ (m : Made). m.left) g.numbers

  places_are : made.places ≡ length (K ts)
  places_are = ap (λ (m : Made). m.places) g.numbers

  -- the present place is one of them
  pub below : made.here < 1024
  below = omega (arith, here-is, here_in ts now, places_are, g.few)

  pub in_places : made.here < length (take made.places k)
  in_places = omega (arith, here-is, here_in ts now, ap (λ (l : List ℕ). length l) g.in_k)

  pub in_slots : made.here < length (take made.places y)
  in_slots = omega (arith, here-is, here_in ts now, ap (λ (l : List ℕ). length l) g.in_y, Y-length ts now ls)

  -- the lent vectors have all the places
  pub long_k : made.places ≡ length (take made.places k)
  long_k = rw g.in_k places_are

  pub long_y : made.places ≡ length (take made.places y)
  long_y = rw g.in_y (places_are ∙ sym (Y-length ts now ls))

  -- what the places after the present one hold
  pub later_left : made.left
      ≡ get_or (take made.places y) made.here 0 + sum (vec (above_moving ts ls now (window ts)) (window ts) (drop (suc (here ts now)) (K ts)))
  later_left = rw (g.in_y, here-is, left_is) (later_sum ts ls now)

  pub left_most : made.left ≤ w.window
  left_most = omega (arith, left_is, window-is, sum-Y ts ls now, from_most ts ls now)

-- ---- the rule: o is the offset of now, and a the work above it

pub found_plus : (b : ℕ) (o : Option ℕ) → found_from b (plus b o) ≡ found_from 0 o
found_plus b None = refl
found_plus b (Some u) =
    let e : b + u - b ≡ u - 0 = omega arith in
    rw e

lefts_are : (w : Windowed) (s : State) → lefts_of w.within.table s.requests ≡ (view_of w.within.table.count s).lefts
unfolding view_of
lefts_are w s = refl

module _ (w : Windowed) (s : State) (made : Made) (k y : List ℕ) (g : Ground w s made k y) (o a : ℕ) (eo : o ≡ s.now.0 % w.window)
    (ea : a ≡ above_moving (tasks_of w.within.table) (lefts_of w.within.table s.requests) o w.window o) where
  abbrev ahead : ℕ → ℕ
  ahead = above_moving (tasks_of w.within.table) (view_of w.within.table.count s).lefts (s.now.0 % window (tasks_of w.within.table)) (window (tasks_of w.within.table))

  offset_is : o ≡ s.now.0 % window (tasks_of w.within.table)
  offset_is = eo ∙ ap (λ (x : ℕ). s.now.0 % x) (window-is w s made k y g)

  inside : o < w.window
  inside = rw eo (mod-lt s.now.0 (ready_pos w.ready))

  all_is : o + a ≡ s.now.0 % window (tasks_of w.within.table) + ahead (s.now.0 % window (tasks_of w.within.table))
  all_is = rw (ea, lefts_are w s, window-is w s made k y g, offset_is)

  pub none_is : o + a + (made.left - get_or (take made.places y) made.here 0) ≤ w.window
      → None ≡ found_from (start_of w s) (overfull_at (tasks_of w.within.table) (view_of w.within.table.count s))
  unfolding view_of
  none_is h =
      rw (none_overfull (tasks_of w.within.table) w.ready.good (view_of w.within.table.count s) g.on_time
      (omega (arith, all_is, later_left w s made k y g, window-is w s made k y g)))

  -- the places after the present one
  later_places : take (length (take made.places k) - (made.here + 1)) (drop (made.here + 1) (take made.places k))
      ≡ drop (suc (here (tasks_of w.within.table) (s.now.0 % window (tasks_of w.within.table)))) (K (tasks_of w.within.table))
  later_places =
      let e : made.here + 1 ≡ suc (here (tasks_of w.within.table) (s.now.0 % window (tasks_of w.within.table))) = omega (arith, here-is w s made k y g) in
      take_rest (take made.places k) (made.here + 1) ∙ rw (g.in_k, e)

  pub reaches : (i : ℕ) → i < length (take (length (take made.places k) - (made.here + 1)) (drop (made.here + 1) (take made.places k)))
      → From w.window o (get_or (take (length (take made.places k) - (made.here + 1)) (drop (made.here + 1) (take made.places k))) i 0)
  reaches i =
      let ts = tasks_of w.within.table in
      let h = here ts (s.now.0 % window ts) in
      let n = inside in
      let few = w.ready.short in
      rw (later_places, get_or-drop (suc h) (K ts) i 0)
      (λ l. record {
        inside = inside;
        not_before = omega (
          arith,
          offset_is,
          window-is w s made k y g,
          later_after ts (s.now.0 % window ts) (suc h + i) (omega (arith, offset_is, window-is w s made k y g)) (omega arith)
              (omega (arith, length-drop (suc h) (K ts), l)),
        );
        not_after = omega (arith, window-is w s made k y g, K-most ts (suc h + i));
        short = few;
      })

  pub first-is : (r : Option Offset)
      → r ≡ found_from 0 (first_among (λ u. ltb (u + above_moving (tasks_of w.within.table) (lefts_of w.within.table s.requests) o w.window u) (o + a))
      (take (length (take made.places k) - (made.here + 1)) (drop (made.here + 1) (take made.places k))))
      → r ≡ found_from (start_of w s) (overfull_at (tasks_of w.within.table) (view_of w.within.table.count s))
  unfolding view_of
  first-is r q =
      let ts = tasks_of w.within.table in
      let p : Option ℕ = first_among (λ u. ltb (u + ahead u) (s.now.0 % window ts + ahead (s.now.0 % window ts)))
      (drop (suc (here ts (s.now.0 % window ts))) (K ts)) in
      let f : first_among (λ u. ltb (u + above_moving ts (lefts_of w.within.table s.requests) o w.window u) (o + a))
      (take (length (take made.places k) - (made.here + 1)) (drop (made.here + 1) (take made.places k)))
      ≡ p
      = rw (later_places, all_is, lefts_are w s, window-is w s made k y g, offset_is) in
      q
      ∙ ap (found_from 0) f
      ∙ sym (found_plus (start_of w s) p)
      ∙ ap (found_from (start_of w s)) (sym (overfull_places ts w.ready.good (view_of w.within.table.count s) g.on_time))
