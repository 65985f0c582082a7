-- The ready word's bits: each is set exactly when the request has work left, and one more request is one bit more.
use Rattle.std.specs.Prelude.{◌≡◌, refl, Bool, true, false, List, [], ◌∷◌, ◌++◌, ℕ, zero, suc, ◌+◌, ◌*◌, ◌/◌, ◌%◌, ◌^◌, ◌<◌, leb, length, take, get_or}
use Rattle.std.proofs.Common.{sym, ap, pow-suc, mul_assoc, div-one, add-one, arith, take-suc, length-take-le, shl_exact}
use Rattle.std.proofs.Math.Nat.{pow-succ', div-div-eq-div-mul, zero-div}
use Rattle.std.specs.Int.Bits.{bit_or, or_shifted_r}
use Rattle.paper.specs.declared.Request.{Request}
use Rattle.paper.specs.Demand.{pick}
use Rattle.paper.specs.View.{left_of, request_lefts}
use Rattle.paper.specs.Rule.{ready_word, bit, ready_bit}

-- 1 where work is left
abbrev pub flag_of : ℕ → ℕ
flag_of l = pick (leb 1 l) 1 0

flag_pick : (b : Bool) → pick b 1 0 < 2
flag_pick true = omega arith
flag_pick false = omega arith

flag_lt : (l : ℕ) → flag_of l < 2
flag_lt l = flag_pick (leb 1 l)

word_snoc : (ls : List ℕ) (l : ℕ) → ready_word (ls ++ (l ∷ [])) ≡ flag_of l * 2 ^ length ls + ready_word ls
unfolding ready_word
word_snoc [] l = omega arith
word_snoc (x ∷ ls) l =
    let e : flag_of l * 2 ^ suc (length ls) ≡ flag_of l * 2 ^ length ls * 2 = rw (pow-suc 2 (length ls)) (sym (mul_assoc (flag_of l) (2 ^ length ls) 2)) in
    omega (arith, e, word_snoc ls l)

word_lt : (ls : List ℕ) → ready_word ls < 2 ^ length ls
unfolding ready_word
word_lt [] = omega arith
word_lt (l ∷ ls) = omega (arith, pow-suc 2 (length ls), word_lt ls, flag_lt l)

-- "bit j−1 of a sixteen-bit word is set exactly when task j has work left"
pub word_bit : (ls : List ℕ) (j : ℕ) → bit (ready_word ls) j ≡ ready_bit ls j
unfolding ready_word
word_bit [] j = rw (zero-div (2 ^ j))
word_bit (l ∷ ls) zero =
    let e : (flag_of l + 2 * ready_word ls) % 2 ≡ flag_of l = omega (arith, flag_lt l) in
    rw (div-one (flag_of l + 2 * ready_word ls), e)
word_bit (l ∷ ls) (suc j) =
    let half : (flag_of l + 2 * ready_word ls) / 2 ≡ ready_word ls = omega (arith, flag_lt l) in
    rw (pow-succ' 2 j, ← div-div-eq-div-mul (flag_of l + 2 * ready_word ls) 2 (2 ^ j), half) (word_bit ls j)

-- one more request, shifted to its place
pub word_more : (ls : List ℕ) (i : ℕ) → i < length ls → i < 16
    → bit_or (ready_word (take i ls)) ((flag_of (get_or ls i 0) * 2 ^ i) % 2 ^ 16) ≡ ready_word (take (i + 1) ls)
word_more ls i h k =
    let f = flag_of (get_or ls i 0) in
    let l : length (take i ls) ≡ i = length-take-le i ls (omega arith) in
    let small : ready_word (take i ls) < 2 ^ i = rw l at (word_lt (take i ls)) in
    let ex : (f * 2 ^ i) % 2 ^ 16 ≡ f * 2 ^ i = shl_exact 1 i 16 (flag_lt (get_or ls i 0)) (omega arith) in
    rw (ex, or_shifted_r f i (ready_word (take i ls)) small, add-one, take-suc ls i 0 h, word_snoc (take i ls) (get_or ls i 0), l)

-- the lefts of the first requests
pub take-lefts : (n : ℕ) (rs : List Request) → request_lefts (take n rs) ≡ take n (request_lefts rs)
unfolding request_lefts
take-lefts zero rs = refl
take-lefts (suc n) [] = refl
take-lefts (suc n) (r ∷ rs) = ap (λ (ls : List ℕ). left_of r.work ∷ ls) (take-lefts n rs)
