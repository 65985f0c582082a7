-- The promise is the paper's: what the code adds up over K, D and Y.
use Prim.Native.Nat.{ℕ, suc, ◌+◌, ◌*◌, ◌-◌, ◌/◌, ◌%◌, ◌≤◌, ◌<◌}
use mathlib.Core.Path.{◌≡◌, ap, ◌∙◌}
use mathlib.Core.List.{List, ◌∷◌}
use native.Mathlib.Nat.{div-add-mod'}
use native.Mathlib.Omega.{arith}
use lib.ListN.{drop, replicate, length-replicate}
use lib.Seq.{drop_at}
use Rattle.paper.specs.declared.Task.{Task}
use Rattle.paper.specs.Window.{window}
use Rattle.paper.specs.Places.{K}
use Rattle.paper.specs.Vectors.{sum, here, times_from, times, Y_from, D, F, Y}
use Rattle.paper.specs.Idle.{reach, promise_later, promise_in, promise}
use Rattle.theory.specs.Counting.{pick_le, pick_gt}
use Rattle.theory.specs.Times.{reach-Y}
use Rattle.moving.specs.declared.Made.{Made}
use Rattle.moving.specs.Vectors.{made_of}

from_here : (ts : List Task) (ls : List ℕ) (v : ℕ) → drop (here ts v) (Y ts ls v) ≡ Y_from ts ls v
unfolding Y
from_here ts ls v = drop_at (replicate (here ts v) 0) (Y_from ts ls v) (here ts v) (length-replicate {A = ℕ} (here ts v) 0)

module _ (ts : List Task) (ls : List ℕ) (at need : ℕ) where
  abbrev W : ℕ
  W = window ts

  abbrev v : ℕ
  v = at % window ts

  start : at / W * W ≡ at - v
  start = omega (arith, div-add-mod' at W)

  here-promise : 1 ≤ need → need ≤ sum (Y ts ls v)
      → at - v + reach (times_from ts v) (Y_from ts ls v) 0 need ≡ promise ts ls at need
  unfolding promise promise_in
  here-promise p h =
      let r = reach (times ts v) (Y ts ls v) 0 need in
      let l = W + promise_later ts (need - sum (Y ts ls v)) in
      omega (arith, start, reach-Y ts ls v need p, pick_le {a = need} {b = sum (Y ts ls v)} r l h)

  later_promise : sum (Y ts ls v) < need → at - v + W + promise_later ts (need - sum (Y ts ls v)) ≡ promise ts ls at need
  unfolding promise promise_in
  later_promise h =
      let r = reach (times ts v) (Y ts ls v) 0 need in
      let l = W + promise_later ts (need - sum (Y ts ls v)) in
      omega (arith, start, pick_gt {a = need} {b = sum (Y ts ls v)} r l h)

-- o is the offset of the time, and k, d and y are K, D and Y
module _ (ts : List Task) (ls : List ℕ) (at need o : ℕ) (made : Made) (k d y : List ℕ) (offset : o ≡ at % made.window) (numbers : made ≡ made_of ts ls at)
    (in_k : k ≡ K ts) (in_d : d ≡ D ts) (in_y : y ≡ Y ts ls (at % window ts)) where
  w : made.window ≡ window ts
  w = ap (λ (m : Made). m.window) numbers

  o_is : o ≡ at % window ts
  o_is = offset ∙ ap (λ (n : ℕ). at % n) w

  pub in_window_is : 1 ≤ need → need ≤ made.left
      → at - o + reach (o ∷ drop (suc made.here) k) (drop made.here y) 0 need ≡ promise ts ls at need
  unfolding times_from
  in_window_is p q =
      let l : made.left ≡ sum (Y ts ls (at % window ts)) = ap (λ (m : Made). m.left) numbers in
      let g : made.here ≡ here ts (at % window ts) = ap (λ (m : Made). m.here) numbers in
      rw (in_k, in_y, g, o_is, from_here ts ls (at % window ts)) (here-promise ts ls at need p (omega arith))

  pub in_later_is : made.left < need
      → at - o + made.window + (need - made.left - 1) / made.idle * made.window
      + reach k d 0 (need - made.left - (need - made.left - 1) / made.idle * made.idle)
      ≡ promise ts ls at need
  unfolding promise_later
  in_later_is q =
      let l : made.left ≡ sum (Y ts ls (at % window ts)) = ap (λ (m : Made). m.left) numbers in
      let f : made.idle ≡ F ts = ap (λ (m : Made). m.idle) numbers in
      rw (in_k, in_d, l, f, o_is, w) (omega (arith, later_promise ts ls at need (omega arith)))
