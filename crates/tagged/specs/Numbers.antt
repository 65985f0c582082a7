-- A number's bytes one by one, a longer number as two shorter ones, and a number past the end, which is 0.
use Rattle.std.specs.Prelude.{ℕ, zero, suc, ◌+◌, ◌*◌, ◌≤◌, ◌≡◌, refl, List, [], ◌∷◌, length, get_or}
use Rattle.std.proofs.Common.{ap, add-one, arith, drop_of_length-le}
use Rattle.std.proofs.Math.Seq.{take-nil}
use Rattle.paper.specs.Fields.{number, number_at}

pub low_first : (n p : ℕ) (bs : List ℕ) → number_at p (suc n) bs ≡ get_or bs p 0 + 256 * number_at (suc p) n bs
unfolding number
low_first n zero [] = rw (take-nil {A = ℕ} n)
low_first n zero (b ∷ bs) = refl
low_first n (suc p) [] = rw (take-nil {A = ℕ} n)
low_first n (suc p) (b ∷ bs) = low_first n p bs

no_bytes : (p : ℕ) (bs : List ℕ) → number_at p 0 bs ≡ 0
unfolding number
no_bytes p bs = refl

pub two_bytes : (p : ℕ) (bs : List ℕ) → number_at p 2 bs ≡ get_or bs p 0 + 256 * get_or bs (p + 1) 0
two_bytes p bs = omega (arith, low_first 1 p bs, low_first 0 (suc p) bs, no_bytes (suc (suc p)) bs, ap (λ (n : ℕ). get_or bs n 0) (add-one p))

pub four_bytes : (p : ℕ) (bs : List ℕ) → number_at p 4 bs ≡ number_at p 2 bs + 65536 * number_at (p + 2) 2 bs
four_bytes p bs =
    let e : p + 2 ≡ suc (suc p) = omega arith in
    rw e (omega (arith, low_first 3 p bs, low_first 2 (suc p) bs, low_first 1 p bs, low_first 0 (suc p) bs, no_bytes (suc (suc p)) bs))

pub past_the_end : (p n : ℕ) (bs : List ℕ) → length bs ≤ p → number_at p n bs ≡ 0
unfolding number
past_the_end p n bs h = rw (drop_of_length-le bs h, take-nil {A = ℕ} n)
