-- A run of bytes is what a copy writes.
use Rattle.std.proofs.Common.{◌≡◌, ◌+◌, ◌-◌, refl, arith, length, drop-drop}
use Rattle.decimal.specs.Written.{written, written-length}
use Rattle.decimal.proofs.Text.put_all.Goals as goal

pub returns : goal.returns
unfolding written
returns c =
    let t = c.args.self.now in
    let bytes = c.args.bytes.now in
    let n : t.at + length bytes - t.at ≡ length bytes = omega arith in
    let copied = c.copy_from_slice.ensures.after in
    record {
      same_buffer = refl;
      same_length = rw (copied, n, drop-drop) (written-length t.out.now t.at bytes c.requires);
      wrote = record { place = refl; bytes = rw (copied, n, drop-drop) refl };
    }
