-- The run program reads no more than a buffer holds. A longer input is refused for its length alone, so its listing is that of the bytes
-- that were read.
use Rattle.std.specs.Prelude.{ℕ, ◌<◌, ◌≡◌, List, length, take}
use Rattle.std.proofs.Common.{sym, ◌∙◌, arith, take_all, length-take-le, lt-ltb}
use Rattle.std.proofs.Math.Decide.{dec_le}
use Rattle.paper.specs.Fields.{refused, refusal_20, read, boot_verdict}
use Rattle.paper.specs.Listing.{listing}

too_long : (bs : List ℕ) → 4096 < length bs → read bs ≡ refused (record { number = 20; place = 0 })
unfolding read refusal_20
too_long bs h = rw (lt-ltb 4096 (length bs) h)

-- the listing of a file is made of what is read of it
same_read : (cs bs : List ℕ) → read cs ≡ read bs → listing cs ≡ listing bs
unfolding listing boot_verdict
same_read cs bs e = rw e

-- the first n bytes have the listing of all, for any n above 4,096
pub cut : (n : ℕ) (bs : List ℕ) → 4096 < n → listing (take n bs) ≡ listing bs
cut n bs h =
    elim (dec_le (length bs) n) [
      | yes k ↦ rw (take_all n bs k)
      | no k ↦
          let l = length-take-le n bs (omega arith) in
          same_read (take n bs) bs (too_long (take n bs) (omega arith) ∙ sym (too_long bs (omega arith)))
    ]
