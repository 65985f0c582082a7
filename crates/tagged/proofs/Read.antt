-- The bytes that are there, then 0 for each that is not: the array that is read, and the number that it holds.
use Rattle.std.specs.Int.{w16, w32, from_le_bytes}
use Rattle.std.proofs.Common.{◌≡◌, refl, sym, ap, ◌∙◌, ℕ, zero, suc, ◌+◌, ◌-◌, ◌≤◌, ◌<◌, List, [], ◌∷◌, ◌++◌, min, length, get_or, take, drop, arith, drop_of_length-le, length-take}
use native.Mathlib.Decide.{dec_le}
use Rattle.std.proofs.Math.ListN.{replicate}
use Rattle.std.proofs.lemmas.List.{get_or-take, get_or-drop, length-append, length-replicate}
use Rattle.std.specs.Array.{IsFromFnResultFrom}
use Rattle.std.specs.Fn.{Mut, Called}
use Rattle.paper.specs.View.{padded}
use Rattle.paper.specs.Fields.{number_at}
use Rattle.tagged.specs.Numbers.{two_bytes, four_bytes}
use Rattle.tagged.specs.Rest.{to_the_end}

-- the bytes from a place on that may be past the end
pub from_place : (bs : List ℕ) (p m : ℕ) → m ≡ min p (length bs) → take (length bs - m) (drop m bs) ≡ drop p bs
from_place bs p m e = to_the_end bs m ∙ elim (dec_le p (length bs)) [
  | yes h ↦ let q : m ≡ p = omega arith in rw q
  | no h ↦ let q : m ≡ length bs = omega arith in drop_of_length-le bs {i = m} (omega arith) ∙ sym (drop_of_length-le bs {i = p} (omega arith))
]

after_end : (n i : ℕ) → get_or {A = ℕ} (replicate n 0) i 0 ≡ 0
after_end zero i = refl
after_end (suc n) zero = refl
after_end (suc n) (suc i) = after_end n i

one_byte : (n i : ℕ) (bs : List ℕ) → get_or (bs ++ replicate n 0) i 0 ≡ get_or bs i 0
one_byte n i [] = after_end n i
one_byte n zero (b ∷ bs) = refl
one_byte n (suc i) (b ∷ bs) = one_byte n i bs

-- a number's bytes are as many as it has places
pub padded_long : (n : ℕ) (bs : List ℕ) → length (padded n 0 bs) ≡ n
padded_long n bs = omega (arith, length-take n (bs ++ replicate n 0), length-append bs (replicate n 0), length-replicate {A = ℕ} n 0)

-- each of them is the byte at its place, or 0
pub padded_at : (n i : ℕ) (bs : List ℕ) → i < n → get_or (padded n 0 bs) i 0 ≡ get_or bs i 0
padded_at n i bs h = get_or-take n (bs ++ replicate n 0) i 0 h ∙ one_byte n i bs

module _ (p : ℕ) (bs : List ℕ) where
  -- byte i of n that are read, which is byte j of all
  byte : (n i j : ℕ) → i < n → j ≡ p + i → get_or (padded n 0 (drop p bs)) i 0 ≡ get_or bs j 0
  byte n i j h e = padded_at n i (drop p bs) h ∙ get_or-drop p bs i 0 ∙ ap (λ (k : ℕ). get_or bs k 0) (sym e)

  pub low_first_2 : (read : List ℕ) → read ≡ padded 2 0 (drop p bs) → from_le_bytes w16 read ≡ number_at p 2 bs
  low_first_2 read e = rw e (omega (arith, byte 2 0 p (omega arith) (omega arith), byte 2 1 (p + 1) (omega arith) (omega arith), two_bytes p bs))

  pub low_first_4 : (read : List ℕ) → read ≡ padded 4 0 (drop p bs) → from_le_bytes w32 read ≡ number_at p 4 bs
  low_first_4 read e =
      let b0 = byte 4 0 p (omega arith) (omega arith) in
      let b1 = byte 4 1 (p + 1) (omega arith) (omega arith) in
      let b2 = byte 4 2 (p + 2) (omega arith) (omega arith) in
      let b3 = byte 4 3 (p + 2 + 1) (omega arith) (omega arith) in
      rw e (omega (arith, four_bytes p bs, two_bytes p bs, two_bytes (p + 2) bs))

-- Calls of a closure at each number from i on, where a call at i gives f i and leaves what it keeps: they gave f of each number.
module _ {F : Type 0} (g : Mut F (ℕ × Unit {0}) ℕ) (Keeps : F → Type 0) (f : ℕ → ℕ)
    (call : (p q : F) (i y : ℕ) → Keeps p → Called g p (i, tt) y q → (y ≡ f i) × Keeps q) where
  pub from_calls : (ys : List ℕ) (p : F) (i n : ℕ) → Keeps p → IsFromFnResultFrom g p ys i n → (k : ℕ) → i ≤ k → k < i + n → get_or ys k 0 ≡ f k
  from_calls ys p i zero kept made k from below = absurd (omega arith)
  from_calls ys p i (suc n) kept (q, y, at, called, made) k from below =
      let (gives, keeps) = call p q i y kept called in
      elim (dec_le (i + 1) k) [
        | yes later ↦ from_calls ys q (i + 1) n keeps made k later (omega arith)
        | no first ↦ let e : k ≡ i = omega arith in rw e (at.1 0 ∙ gives)
      ]
