-- Place h is found, the entries from it on are put in, and zeros before them.
use Rattle.std.proofs.Common.{◌≡◌, ◌≤◌, ◌-◌, sym, ap, ◌∙◌, arith, length, take, drop, length-take-le, length-drop}
use Rattle.std.proofs.lemmas.List.{take_all}
use Rattle.theory.specs.Times.{K-some, here_in}
use Rattle.theory.specs.PlaceLaws.{sum-Y}
use Rattle.paper.specs.Vectors.{here}
use Rattle.moving.specs.Above.{tasks_at, lefts_at}
use Rattle.moving.proofs.Places.{here-is, made}
use Rattle.moving.proofs.Moment.fill_moving.Goals.{Start, After-up_to_v-here, After-fill_from-left}
use Rattle.moving.proofs.Moment.fill_moving.Goals as goal

-- the places are as many as n says
long : (c : Start) → length (take c.args.n c.args.k.now) ≡ c.args.n
long c = ap length c.requires.k_is.is ∙ sym c.requires.n_is

pub slice_bounds-places-end : goal.slice_bounds-places-end
slice_bounds-places-end c = sym (long (goal.at.slice_bounds-places-end c).Start)

pub slice_bounds-up_to_v-count : goal.slice_bounds-up_to_v-count
slice_bounds-up_to_v-count c = omega (arith, K-some (tasks_at c.args.self.now), ap length c.requires.k_is.is)

pub slice_bounds-up_to_v-start : goal.slice_bounds-up_to_v-start
slice_bounds-up_to_v-start c = omega (arith, K-some (tasks_at c.args.self.now), ap length c.requires.k_is.is)

found : (c : After-up_to_v-here) → c.up_to_v-here.result ≡ here (tasks_at c.args.self.now) c.args.self.now.v.0
found c =
    let m = c.args.self.now in
    let k = take c.args.n c.args.k.now in
    let all : take (length k - 1) (drop 1 k) ≡ drop 1 k = take_all (length k - 1) (drop 1 k) (omega (arith, length-drop 1 k)) in
    c.up_to_v-here.ensures ∙ rw all (here-is (tasks_at m) m.v.0 k c.requires.k_is.is)

pub fill_from-left-requires : goal.fill_from-left-requires
fill_from-left-requires c =
    record { k_is = c.requires.k_is; h_value = (found (goal.at.fill_from-left-requires c).After-up_to_v-here, omega (arith, c.requires.in_y, long (goal.at.fill_from-left-requires c).Start)) }

-- and it is one of the vector's
in-y : (c : After-fill_from-left) → c.up_to_v-here.result ≡ here (tasks_at c.args.self.now) c.args.self.now.v.0 → c.up_to_v-here.result ≤ length c.fill_from-left.new.y
in-y c e =
    let m = c.args.self.now in
    omega (arith, c.fill_from-left.auto, here_in (tasks_at m) m.v.0, ap length c.requires.k_is.is, c.requires.in_y)

pub slice_bounds-fill-end : goal.slice_bounds-fill-end
slice_bounds-fill-end c = in-y (goal.at.slice_bounds-fill-end c).After-fill_from-left (found (goal.at.slice_bounds-fill-end c).After-up_to_v-here)

pub slice_bounds-fill-end-2 : goal.slice_bounds-fill-end-2
slice_bounds-fill-end-2 c =
    sym (length-take-le c.up_to_v-here.result c.fill_from-left.new.y (in-y (goal.at.slice_bounds-fill-end-2 c).After-fill_from-left (found (goal.at.slice_bounds-fill-end-2 c).After-up_to_v-here)))

pub returns : goal.returns
returns c =
    let a = c.args in
    let m = a.self.now in
    let ts = tasks_at m in
    let h = c.up_to_v-here.result in
    let e = found (goal.at.returns c).After-up_to_v-here in
    let f = c.fill_from-left.ensures in
    let zeros = c.fill.ensures.after (λ y e. e) in (
      rw (e, f.0, ← sum-Y ts (lefts_at m) m.v.0),
      rw (zeros, length-take-le h c.fill_from-left.new.y (in-y (goal.at.returns c).After-fill_from-left (found (goal.at.returns c).After-up_to_v-here)), f.1)
          (made ts (lefts_at m) m.v.0 (length (take a.n a.k.now)) h a.y.now e (ap length c.requires.k_is.is) (omega (arith, c.requires.in_y, long (goal.at.returns c).Start))),
    )
