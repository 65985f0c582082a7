-- The vectors that stand in front of the lent ones, once 1 to 8 have passed.
use mathlib.Core.Path.{◌≡◌, sym, ap, ◌∙◌}
use mathlib.Core.List.{List}
use Prim.Native.Nat.{ℕ, ◌%◌, ◌≤◌}
use native.Mathlib.Omega.{arith}
use lib.ListN.{length, take, drop, length-take}
use lib.Seq.{take_at}
use Rattle.paper.specs.declared.Task.{Task}
use Rattle.paper.specs.declared.Table.{Table}
use Rattle.paper.specs.declared.State.{State}
use Rattle.paper.specs.Window.{window}
use Rattle.paper.specs.Places.{K}
use Rattle.paper.specs.Vectors.{here, D, Y}
use Rattle.paper.specs.View.{View, view_of, tasks_of}
use Rattle.paper.specs.Calls.{filled}
use Rattle.theory.specs.Ready.{ready_pos}
use Rattle.theory.specs.Times.{here_in, D-length, Y-length}
use Rattle.moving.specs.declared.Made.{Made}
use Rattle.promise.specs.Sizes.{Lent, LentInFront}
use Rattle.vectors.specs.declared.Prepared.{Prepared}
use Rattle.vectors.specs.Prepared.{Prepares}

in_front : (xs lent : List ℕ) (n : ℕ) → length xs ≡ n → take n (filled xs lent) ≡ xs
in_front xs lent n e = take_at xs (drop (length xs) lent) n e

module _ (t : Table) (s : State) (k d y k' d' y' : List ℕ) (p : Prepared) (q : Prepares t s k d y k' d' y' p) where
  abbrev ts : List Task
  ts = tasks_of t

  abbrev view : View
  view = view_of t.count s

  abbrev now : ℕ
  now = s.now.0 % window (tasks_of t)

  window-is : p.made.window ≡ window ts
  window-is = ap (λ (m : Made). m.window) q.fills.numbers

  places_are : p.made.places ≡ length (K ts)
  places_are = ap (λ (m : Made). m.places) q.fills.numbers

  here-is : p.made.here ≡ here ts now
  here-is = ap (λ (m : Made). m.here) q.fills.numbers

  pub front_k : take p.made.places k' ≡ K ts
  front_k = rw q.fills.in_k (in_front (K ts) k p.made.places (sym places_are))

  pub front_d : take p.made.places d' ≡ D ts
  front_d = rw q.fills.in_d (in_front (D ts) d p.made.places (D-length ts ∙ sym places_are))

  pub front_y : take p.made.places y' ≡ Y ts view.lefts now
  unfolding view_of
  front_y = rw q.fills.in_y (in_front (Y ts view.lefts now) y p.made.places (Y-length ts now view.lefts ∙ sym places_are))

  -- as many stand in front as there are places, so the lent vectors have room for them
  long_k : length (take p.made.places k') ≡ p.made.places
  long_k = rw front_k (sym places_are)

  pub long-d : length (take p.made.places d') ≡ p.made.places
  long-d = rw front_d (D-length ts ∙ sym places_are)

  pub long_y : length (take p.made.places y') ≡ p.made.places
  long_y = rw front_y (Y-length ts now view.lefts ∙ sym places_are)

  in_k : p.made.places ≤ length k'
  in_k = omega (arith, length-take p.made.places k', long_k)

  pub in_d : p.made.places ≤ length d'
  in_d = omega (arith, length-take p.made.places d', long-d)

  pub in_y : p.made.places ≤ length y'
  in_y = omega (arith, length-take p.made.places y', long_y)

  pub lent_in_front : LentInFront p.made (length k') (length d') (length y')
  lent_in_front =
      let r = rw q.table_is at p.checked.ready in
      record {
        pos = omega (arith, ready_pos r, r.is_window, window-is);
        short = omega (arith, r.short, r.is_window, window-is);
        present = omega (arith, here_in ts now, here-is, places_are);
        few = q.few;
        in_k = in_k;
        in_d = in_d;
        in_y = in_y;
      }

  pub lent : Lent p.made (length (take p.made.places k')) (length (take p.made.places d')) (length (take p.made.places y'))
  lent =
      let l = lent_in_front in
      record { pos = l.pos; short = l.short; present = l.present; few = l.few; in_k = long_k; in_d = long-d; in_y = long_y }
