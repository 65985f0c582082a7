-- Lines, as the parts that are written one after another.
use Rattle.std.specs.Prelude.{◌≡◌, List, [], ◌∷◌, ◌++◌, ℕ}
use Rattle.std.proofs.Common.{append_assoc}
use Rattle.paper.specs.Listing.{decimal, line}

-- a letter and two numbers, each after a blank, and the byte after them
abbrev pub two_words : ℕ → ℕ → ℕ → ℕ → List ℕ
two_words letter x y end = (letter ∷ []) ++ (32 ∷ (decimal x ++ (32 ∷ []))) ++ (decimal y ++ (end ∷ []))

pub two_words_lem : (letter x y : ℕ) → two_words letter x y 10 ≡ line ((letter ∷ []) ∷ decimal x ∷ decimal y ∷ [])
unfolding line
two_words_lem letter x y = simp append_assoc

pub three_words : (letter x y z : ℕ)
    → two_words letter x y 32 ++ (decimal z ++ (10 ∷ [])) ≡ line ((letter ∷ []) ∷ decimal x ∷ decimal y ∷ decimal z ∷ [])
unfolding line
three_words letter x y z = simp append_assoc

pub slot_words : (n : ℕ) (w : List ℕ) → (decimal n ++ (32 ∷ [])) ++ (w ++ (10 ∷ [])) ≡ line (decimal n ∷ w ∷ [])
unfolding line
slot_words n w = simp append_assoc
