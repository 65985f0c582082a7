-- A number in decimal: its last digit stands after the digits of its tenth, and a number of 64 bits has at most twenty.
use Rattle.std.specs.Prelude.{◌≡◌, refl, List, [], ◌∷◌, ◌++◌, ℕ, zero, suc, ◌+◌, ◌*◌, ◌/◌, ◌%◌, ◌^◌, ◌≤◌, ◌<◌, length}
use Rattle.std.proofs.Common.{ap, ◌∙◌, append_assoc, arith, length-append, lt-ltb, le-ltb}
use Rattle.std.proofs.Math.Decide.{dec_lt}
use Rattle.paper.specs.Listing.{digits, decimal}
use Rattle.decimal.specs.Written.{Wrote, wrote_more}

-- what stands after the digits stays there
digits-front : (n m : ℕ) (ds : List ℕ) → digits n m ds ≡ digits n m [] ++ ds
unfolding digits
digits-front zero m ds = refl
digits-front (suc n) m ds =
    elim (dec_lt m 10) [
      | yes k ↦ rw (lt-ltb m 10 k)
      | no k ↦ let q : 10 ≤ m = omega arith in
          rw (le-ltb m 10 q)
          (digits-front n (m / 10) ((48 + m % 10) ∷ ds)
          ∙ rw (digits-front n (m / 10) ((48 + m % 10) ∷ []), append_assoc (digits n (m / 10) []) ((48 + m % 10) ∷ []) ds))
    ]

-- any number of digits above m is enough
digits-enough : (n k m : ℕ) (ds : List ℕ) → m < n → m < k → digits n m ds ≡ digits k m ds
unfolding digits
digits-enough zero k m ds h g = absurd (omega arith)
digits-enough (suc n) zero m ds h g = absurd (omega arith)
digits-enough (suc n) (suc k) m ds h g =
    elim (dec_lt m 10) [
      | yes q ↦ rw (lt-ltb m 10 q)
      | no q ↦ let r : 10 ≤ m = omega arith in
          rw (le-ltb m 10 r) (digits-enough n k (m / 10) ((48 + m % 10) ∷ ds) (omega arith) (omega arith))
    ]

pub decimal-small : (m : ℕ) → m < 10 → decimal m ≡ (48 + m) ∷ []
unfolding decimal digits
decimal-small m h = rw (lt-ltb m 10 h)

pub decimal-more : (m : ℕ) → 10 ≤ m → decimal m ≡ decimal (m / 10) ++ ((48 + m % 10) ∷ [])
unfolding decimal digits
decimal-more m h =
    rw (le-ltb m 10 h)
    (digits-front m (m / 10) ((48 + m % 10) ∷ [])
    ∙ ap (λ (l : List ℕ). l ++ ((48 + m % 10) ∷ [])) (digits-enough m (suc (m / 10)) (m / 10) [] (omega arith) (omega arith)))

pub decimal-longer : (m : ℕ) → 10 ≤ m → length (decimal m) ≡ length (decimal (m / 10)) + 1
decimal-longer m h = rw (decimal-more m h, length-append (decimal (m / 10)) ((48 + m % 10) ∷ []))

pub decimal-some : (m : ℕ) → 1 ≤ length (decimal m)
decimal-some m =
    elim (dec_lt m 10) [
      | yes k ↦ rw (decimal-small m k) (omega arith)
      | no k ↦ rw (decimal-more m (omega arith), length-append (decimal (m / 10)) ((48 + m % 10) ∷ [])) (omega arith)
    ]

-- ten times ten, k times
tens : ℕ → ℕ
tens zero = 10
tens (suc k) = 10 * tens k

at_most : (k m : ℕ) → m < tens k → length (decimal m) ≤ suc k
unfolding tens
at_most zero m h = rw (decimal-small m h) (omega arith)
at_most (suc k) m h =
    elim (dec_lt m 10) [
      | yes q ↦ rw (decimal-small m q) (omega arith)
      | no q ↦
          rw (decimal-more m (omega arith), length-append (decimal (m / 10)) ((48 + m % 10) ∷ []))
          (omega (arith, at_most k (m / 10) (omega arith)))
    ]

-- twenty digits are enough for 64 bits
pub decimal-most : (m : ℕ) → m < 2 ^ 64 → length (decimal m) ≤ 20
unfolding tens
decimal-most m h = at_most 19 m (omega arith)

-- the digits of a tenth, and then the last digit, were written: the number was
pub last_digit : {out one two : List ℕ} {at n next end d : ℕ} → 10 ≤ n → at + length (decimal n) ≤ length out → d ≡ 48 + n % 10
    → Wrote out at (decimal (n / 10)) next one → Wrote one next (d ∷ []) end two → Wrote out at (decimal n) end two
last_digit {n = n} h fits e p q =
    rw (decimal-more n h) (wrote_more (omega (arith, decimal-longer n h)) p (rw e at q))
