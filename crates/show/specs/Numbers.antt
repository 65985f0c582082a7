-- The numbers of a vector, each after a blank.
use Rattle.std.specs.Prelude.{◌≡◌, refl, List, [], ◌∷◌, ◌++◌, ℕ, ◌+◌, ◌<◌, length, take, get_or}
use Rattle.std.proofs.Common.{sym, ap, ◌∙◌, append_assoc, append-nil, add-one, take-suc}
use Rattle.paper.specs.Listing.{decimal, line}

unfoldable pub after_blanks : List ℕ → List ℕ
after_blanks [] = []
after_blanks (n ∷ ns) = (32 ∷ decimal n) ++ after_blanks ns

pub after_none : after_blanks [] ≡ []
unfolding after_blanks
after_none = refl

after_one : (n : ℕ) → after_blanks (n ∷ []) ≡ 32 ∷ decimal n
unfolding after_blanks
after_one n = simp append-nil

after_both : (ns ms : List ℕ) → after_blanks (ns ++ ms) ≡ after_blanks ns ++ after_blanks ms
unfolding after_blanks
after_both [] ms = refl
after_both (n ∷ ns) ms = rw (after_both ns ms) (sym (append_assoc (32 ∷ decimal n) (after_blanks ns) (after_blanks ms)))

pub after_next : (v : List ℕ) (i : ℕ) → i < length v → after_blanks (take i v) ++ (32 ∷ decimal (get_or v i 0)) ≡ after_blanks (take (i + 1) v)
after_next v i h =
    rw (add-one, take-suc v i 0 h) (sym (after_both (take i v) (get_or v i 0 ∷ []) ∙ ap (λ (l : List ℕ). after_blanks (take i v) ++ l) (after_one (get_or v i 0))))

pub label_number : (w : List ℕ) (n : ℕ) → w ++ (32 ∷ decimal n) ++ (10 ∷ []) ≡ line (w ∷ decimal n ∷ [])
unfolding line
label_number w n = simp append_assoc
