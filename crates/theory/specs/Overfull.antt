-- 9's first rule, read off the places: nothing is due at now, so what is due by u is what lies above now less what lies above u;
-- it exceeds u − now for the first time at a place after now; and nowhere, if the entry at now is not cut off at 0.
use Prim.Native.Nat.{ℕ, zero, suc, ◌+◌, ◌*◌, ◌-◌, ◌/◌, ◌%◌, ◌≤◌, ◌<◌}
use Rattle.std.specs.Prelude.{◌≡◌, true, cond, ◌&&◌, List, [], ◌∷◌, leb, Option, None, Some}
use Rattle.std.proofs.Math.Path.{refl, ap}
use Rattle.std.proofs.Common.{sym, ◌∙◌, div-add-mod', mod-lt, lt_of_not-le, arith}
use Rattle.std.proofs.Math.Bool.{Bool, false}
use Rattle.std.proofs.Math.Nat.{dvd-mul_left}
use Rattle.std.proofs.Math.Decide.{dec_le, dec_lt}
use Rattle.std.proofs.Math.Dec.{ltb}
use Rattle.std.proofs.Math.ListN.{drop}
use borrow.Author.Tests.{lt-ltb, le-ltb, le-leb}
use Rattle.paper.specs.declared.Task.{Task}
use Rattle.paper.specs.Demand.{Good, AllGood, dues, present, deadline_at, present_due, later_due, due}
use Rattle.paper.specs.Window.{window}
use Rattle.paper.specs.Places.{is_deadline, keep, places_in, K}
use Rattle.paper.specs.Vectors.{sum, vec, above_moving, here, times_from}
use Rattle.paper.specs.View.{View}
use Rattle.paper.specs.Refusals.{first_of, late_request, overdue, overfull_at}
use Rattle.theory.specs.Counting.{due_in, due-out, dues-counts, before_next_release}
use Rattle.theory.specs.Tables.{divide_trans, due-split, moving_step}
use Rattle.theory.specs.WindowLaws.{window-divides, window-pos}
use Rattle.theory.specs.PlaceLaws.{Steps, free, entry, vec-cons, moving_steps}
use Rattle.theory.specs.Times.{times_from-is}
use Rattle.theory.specs.Verdicts.{or_false_both}
use Rattle.theory.specs.Scan.{none_found}

-- ---- nothing is due at now

later_none : (t : Task) (g : Good t) (now : ℕ) → later_due t now now ≡ 0
unfolding later_due
later_none t g now =
    let q = present t now in
    let few : dues t now ≤ suc q = elim (dec_le (dues t now) (suc q)) [
      | yes h ↦ h
      | no h ↦ absurd (omega (arith, (dues-counts t g (suc q) now).0 (lt_of_not-le h), before_next_release t g now))
    ] in
    let z : dues t now - suc q ≡ 0 = omega arith in
    rw z (omega arith)

done_present : (t : Task) (l now : ℕ) → (leb 1 l && leb (deadline_at t now) now) ≡ false → present_due t l now now ≡ 0
done_present t l now e = elim (dec_le (deadline_at t now) now) [
  | yes h ↦ elim (dec_le 1 l) [
    | yes k ↦ (let z : ◌≡◌ {A = Bool} true false = rw (le-leb 1 l k, le-leb (deadline_at t now) now h) at e in let y : ◌≡◌ {A = ℕ} 0 1 = cc in absurd (omega arith))
    | no k ↦ omega (arith, due_in t l now now h)
  ]
  | no h ↦ due-out t l now now (omega arith)
]

-- Where no request is late, nothing is due at now.
pub none_due : (ts : List Task) (ls : List ℕ) (now : ℕ) → AllGood ts → late_request ts ls now now ≡ false → due ts ls now now ≡ 0
unfolding due late_request
none_due [] ls now g e = refl
none_due (t ∷ ts) [] now g e = omega (arith, later_none t g.0 now, none_due ts [] now g.1 (late_nil ts now))
  where
    late_nil : (ts : List Task) (now : ℕ) → late_request ts [] now now ≡ false
    late_nil [] now = refl
    late_nil (t ∷ ts) now = refl
none_due (t ∷ ts) (l ∷ ls) now g e =
    let a = or_false_both (leb 1 l && leb (deadline_at t now) now) (late_request ts ls now now) e in
    omega (arith, later_none t g.0 now, done_present t l now a.0, none_due ts ls now g.1 a.1)

-- ---- the first of some times

-- the first of the places at which the test is true
abbrev pub first_among : (ℕ → Bool) → List ℕ → Option ℕ
first_among test [] = None
first_among test (k ∷ ks) = cond (test k) (Some k) (first_among test ks)

-- an offset of the window that starts at b, as a slot
abbrev pub plus : ℕ → Option ℕ → Option ℕ
plus b None = None
plus b (Some u) = Some (b + u)

plus_cond : (b u : ℕ) (c : Bool) (o : Option ℕ) → plus b (cond c (Some u) o) ≡ cond c (Some (b + u)) (plus b o)
plus_cond b u true o = refl
plus_cond b u false o = refl

shifted : (f g : ℕ → Bool) (b u n : ℕ) → ((w : ℕ) → u ≤ w → w < u + n → f (b + w) ≡ g w) → first_of f (b + u) n ≡ plus b (first_of g u n)
unfolding first_of
shifted f g b u zero h = refl
shifted f g b u (suc n) h =
    let e : suc (b + u) ≡ b + suc u = omega arith in
    rw (h u (omega arith) (omega arith), e, shifted f g b (suc u) n (λ w k l. h w (omega arith) (omega arith)))
    (sym (plus_cond b u (g u) (first_of g (suc u) n)))

-- only at the places does the test begin to hold
module _ (A : ℕ → ℕ) (p : ℕ → Bool) (c v W : ℕ) (still : (j : ℕ) → v ≤ j → j < W → p (suc j) ≡ false → A (suc j) ≡ A j) where
  abbrev over : ℕ → Bool
  over u = ltb (u + A u) c

  among_keep : (k : ℕ) (o : Option ℕ) (ks : List ℕ) (b : Bool) → v ≤ k → k < W → p (suc k) ≡ b → c ≤ k + A k
      → (c ≤ suc k + A (suc k) → o ≡ first_among over ks)
      → cond (over (suc k)) (Some (suc k)) o ≡ first_among over (keep b (suc k) ks)
  among_keep k o ks true vk kW q h r =
      elim (dec_lt (suc k + A (suc k)) c) [
        | yes l ↦ rw (lt-ltb (suc k + A (suc k)) c l)
        | no l ↦ (let m : c ≤ suc k + A (suc k) = omega arith in rw (le-ltb (suc k + A (suc k)) c m) (r m))
      ]
  among_keep k o ks false vk kW q h r =
      let m : c ≤ suc k + A (suc k) = omega (arith, still k vk kW q) in
      rw (le-ltb (suc k + A (suc k)) c m) (r m)

  among : (k n : ℕ) → v ≤ k → k + n ≤ W → c ≤ k + A k → first_of over (suc k) n ≡ first_among over (places_in p k n)
  unfolding first_of places_in
  among k zero vk kn h = refl
  among k (suc n) vk kn h =
      among_keep k (first_of over (suc (suc k)) n) (places_in p (suc k) n) (p (suc k)) vk (omega arith) refl h (among (suc k) n (omega arith) (omega arith))

-- ---- 9's first rule

test_same : (a b c d : ℕ) → (a < b → c < d) → (b ≤ a → d ≤ c) → ltb a b ≡ ltb c d
test_same a b c d h k = elim (dec_lt a b) [
  | yes l ↦ rw (lt-ltb a b l, lt-ltb c d (h l))
  | no l ↦ (let m : b ≤ a = omega arith in rw (le-ltb a b m, le-ltb c d (k m)))
]

-- the most that is free from any time on is what the vector holds
module _ (A : ℕ → ℕ) (W : ℕ) where
  sum_one : (k : ℕ) (ks : List ℕ) → sum (vec A W (k ∷ ks)) ≡ entry A W k ks + sum (vec A W ks)
  unfolding sum
  sum_one k ks = rw vec-cons

  free_most : (k : ℕ) (ks : List ℕ) → Steps A W k ks → (u : ℕ) → k ≤ u → u ≤ W → free A W u ≤ sum (vec A W (k ∷ ks))
  free_most k [] s u ku uW = omega (arith, s.1 u ku uW, sum_one k [])
  free_most k (j ∷ js) s u ku uW = elim (dec_lt u j) [
    | yes l ↦ omega (arith, s.1 u ku l, sum_one k (j ∷ js))
    | no l ↦ omega (arith, sum_one k (j ∷ js), free_most j js s.2 u (omega arith) uW)
  ]

module _ (ts : List Task) (good : AllGood ts) (view : View) (on_time : overdue ts view ≡ false) where
  abbrev W : ℕ
  W = window ts

  abbrev v : ℕ
  v = view.now % window ts

  abbrev b : ℕ
  b = view.now / window ts * window ts

  -- the work above a time of the window
  abbrev above : ℕ → ℕ
  above = above_moving ts view.lefts v W

  now_is : b + v ≡ view.now
  now_is = div-add-mod' view.now W

  inside : v < W
  inside = mod-lt view.now (window-pos ts good)

  split : (u : ℕ) → u ≤ W → due ts view.lefts view.now (b + u) + above u ≡ due ts view.lefts view.now (b + W)
  split u h =
      rw now_is at (due-split W ts view.lefts b v u good (window-divides ts)
      (divide_trans ts W b (window-divides ts) (dvd-mul_left W (view.now / W))) inside h)

  nothing : due ts view.lefts view.now view.now ≡ 0
  unfolding overdue
  nothing = none_due ts view.lefts view.now good (or_false_both (late_request ts view.lefts view.now view.now) _ on_time).0

  -- what is due by u is what lies above now and not above u
  due-is : (u : ℕ) → u ≤ W → due ts view.lefts view.now (b + u) + above u ≡ above v
  due-is u h = omega (arith, split u h, rw now_is at (split v (omega (arith, inside))), nothing)

  test_is : (u : ℕ) → v ≤ u → u < v + suc (W - v)
      → ltb (b + u) (view.now + due ts view.lefts view.now (b + u)) ≡ ltb (u + above u) (v + above v)
  test_is u vu uW =
      let d = due-is u (omega (arith, inside)) in
      test_same (b + u) (view.now + due ts view.lefts view.now (b + u)) (u + above u) (v + above v)
      (λ h. omega (arith, now_is)) (λ h. omega (arith, now_is))

  -- 9's first rule is given at the first later place at which too little lies above, and at no time between places.
  pub overfull_places : overfull_at ts view ≡ plus b (first_among (λ u. ltb (u + above u) (v + above v)) (drop (suc (here ts v)) (K ts)))
  unfolding overfull_at first_of times_from
  overfull_places =
      let f : ℕ → Bool = λ u. ltb u (view.now + due ts view.lefts view.now u) in
      let g : ℕ → Bool = λ u. ltb (u + above u) (v + above v) in
      let i = inside in
      let e : drop (suc (here ts v)) (K ts) ≡ places_in (is_deadline ts) v (W - v) = ap (drop 1) (times_from-is ts v (omega arith)) in
      let none-now : g v ≡ false = le-ltb (v + above v) (v + above v) (omega arith) in
      ap (λ (x : ℕ). first_of f x (suc (W - v))) (sym now_is)
      ∙ shifted f g b v (suc (W - v)) test_is
      ∙ rw (none-now, e) (ap (plus b) (among above (is_deadline ts) (v + above v) v W
      (λ j h jW q. moving_step W ts view.lefts v j good (window-divides ts) inside jW q) v (W - v) (omega arith) (omega arith) (omega arith)))

  -- nowhere, if the entry at now is not cut off
  pub none_overfull : v + above v + sum (vec above W (drop (suc (here ts v)) (K ts))) ≤ W → overfull_at ts view ≡ None
  unfolding overfull_at times_from
  none_overfull h =
      let ks = places_in (is_deadline ts) v (W - v) in
      let i = inside in
      let e : drop (suc (here ts v)) (K ts) ≡ ks = ap (drop 1) (times_from-is ts v (omega arith)) in
      let s = moving_steps ts good view.lefts v inside in
      let h' : v + above v + sum (vec above W ks) ≤ W = rw e at h in
      none_found (λ u. ltb u (view.now + due ts view.lefts view.now u)) view.now (suc (W - v))
      (λ u a c.
      let w = u - b in
      let q : b + w ≡ u = omega (arith, now_is) in
      let m = free_most above W v ks s w (omega (arith, now_is)) (omega (arith, now_is)) in
      le-ltb u (view.now + due ts view.lefts view.now u)
      (omega (arith, now_is, rw q at (due-is w (omega (arith, now_is))), sum_one above W v ks)))
