-- One byte is what a store writes.
use Rattle.std.proofs.Common.{refl, sym, arith}
use Rattle.std.proofs.lemmas.List.{length-set}
use Rattle.decimal.specs.Written.{written_one}
use Rattle.decimal.proofs.Text.put.Goals as goal

pub returns : goal.returns
returns c =
    let t = c.args.self.now in
    record {
      same_buffer = refl;
      same_length = length-set t.out.now t.at c.args.b;
      wrote = record { place = refl; bytes = sym (written_one t.out.now t.at c.args.b (omega (arith, c.requires))) };
    }
