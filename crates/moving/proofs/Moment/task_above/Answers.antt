use native.Mathlib.Omega.{arith}
use Rattle.paper.specs.View.{left_of}
use Rattle.moving.proofs.OneTask.{all_most, later_most, near, far}
use Rattle.moving.proofs.Moment.task_above.Goals as goal

pub returns-then-self-above : goal.returns-then-self-above
returns-then-self-above c =
    let a = c.args in
    let m = a.self.now in
    record {
      is = rw (near a.t m.checked.window m.v.0 a.k.0 c.requires.fits c.requires.from (left_of a.r.work) (omega arith));
      most = omega (arith, all_most a.t m.checked.window m.v.0 a.k.0 c.requires.fits c.requires.from);
    }

pub returns : goal.returns
returns c =
    let a = c.args in
    let m = a.self.now in
    record {
      is = rw (far a.t m.checked.window m.v.0 a.k.0 c.requires.fits c.requires.from (left_of a.r.work) (omega arith), c.left.ensures);
      most = omega (arith, later_most a.t m.checked.window m.v.0 a.k.0 c.requires.fits c.requires.from);
    }
