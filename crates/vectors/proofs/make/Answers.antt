use Rattle.theory.specs.Ready.{ready_pos}
use native.Mathlib.Nat.{mod-lt}
use Rattle.vectors.proofs.Made.{made_is}
use Rattle.vectors.proofs.make.Goals as goal

pub offset_of-v-requires : goal.offset_of-v-requires
offset_of-v-requires c = ready_pos c.args.j.checked.ready

pub invariant_of-moment : goal.invariant_of-moment
invariant_of-moment c = record { inside = rw c.offset_of-v.ensures (mod-lt c.args.s.now.0 (ready_pos c.args.j.checked.ready)) }

pub returns : goal.returns
returns c =
    let f = c.fill_table-idle.ensures in
    let m = c.fill_moving-moved.ensures in
    made_is c.args.j c.args.s c.requires.places _ c.offset_of-v.ensures f.0 m.0 f.1 f.2 m.1
