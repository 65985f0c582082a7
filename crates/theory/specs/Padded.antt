-- Places of which the first are used and the others hold one value, for lists of any length: `padded n a xs` is xs and then a.
-- What the code does to an array of places is what the rule does to the list of those that are used.
use Rattle.std.specs.Prelude.{◌≡◌, refl, List, [], ◌∷◌, ◌++◌, ℕ, zero, suc, ◌+◌, ◌-◌, ◌≤◌, ◌<◌, length, take, drop, set, replicate}
use Rattle.std.proofs.Common.{sym, ap, ◌∙◌, append_assoc, arith, le_of_suc-le-suc, length-append, take-append-drop, length-set, length-take-le}
use Rattle.std.proofs.lemmas.List.{length-replicate, set-append_left}
use Rattle.std.proofs.Math.Seq.{take-append-add, take-append_seam, drop-append_seam, set-append_seam}
use Rattle.paper.specs.View.{padded}

module _ {A : Type 0} (a : A) where
  -- The first m of n places that hold a are m such places.
  pub take-replicate : (m n : ℕ) → m ≤ n → take m (replicate n a) ≡ replicate m a
  take-replicate zero n h = refl
  take-replicate (suc m) zero h = absurd (omega arith)
  take-replicate (suc m) (suc n) h = ap (λ (l : List A). a ∷ l) (take-replicate m n (le_of_suc-le-suc h))

  -- xs, and a in each place that is left
  pub padded_is : (n : ℕ) (xs : List A) → length xs ≤ n → padded n a xs ≡ xs ++ replicate (n - length xs) a
  padded_is n xs h =
      let e : length xs + (n - length xs) ≡ n = omega arith in
      ap (λ (m : ℕ). take m (xs ++ replicate n a)) (sym e)
      ∙ take-append-add xs (replicate n a) (n - length xs)
      ∙ ap (λ (l : List A). xs ++ l) (take-replicate (n - length xs) n (omega arith))

  -- There are n places, whether xs is shorter than that or longer.
  pub length-padded : (n : ℕ) (xs : List A) → length (padded n a xs) ≡ n
  length-padded n xs =
      length-take-le n (xs ++ replicate n a) (rw (length-append xs (replicate n a), length-replicate n a) (omega arith))

  -- the used places
  pub take-padded : (n : ℕ) (xs : List A) → length xs ≤ n → take (length xs) (padded n a xs) ≡ xs
  take-padded n xs h = rw (padded_is n xs h) (take-append_seam xs (replicate (n - length xs) a))

  -- ---- places whose unused part is clear

  -- every one of them is a
  abbrev pub AllAre : List A → Type 0
  AllAre [] = Unit {0}
  AllAre (x ∷ xs) = (x ≡ a) × AllAre xs

  -- Such a list is a, as often as it is long.
  pub all_are : (xs : List A) → AllAre xs → replicate (length xs) a ≡ xs
  all_are [] h = refl
  all_are (x ∷ xs) h = rw h.0 (ap (λ (l : List A). a ∷ l) (all_are xs h.1))

  -- Places of which those from m on hold a are the first m of them, padded.
  pub padded_front : (n m : ℕ) (l : List A) → length l ≡ n → m ≤ n → AllAre (drop m l) → padded n a (take m l) ≡ l
  padded_front n m l e h c =
      let short : length (take m l) ≡ m = length-take-le m l (omega arith) in
      let whole : length (take m l) + length (drop m l) ≡ length l = sym (length-append (take m l) (drop m l)) ∙ ap length (take-append-drop m l) in
      let rest : n - length (take m l) ≡ length (drop m l) = omega arith in
      padded_is n (take m l) (omega arith)
      ∙ ap (λ (k : ℕ). take m l ++ replicate k a) rest
      ∙ ap (λ (x : List A). take m l ++ x) (all_are (drop m l) c)
      ∙ take-append-drop m l

  -- ---- a used place is changed, one more is used, the first is given up

  -- A used place is changed.
  pub set_padded : (n : ℕ) (xs : List A) (i : ℕ) (x : A) → length xs ≤ n → i < length xs → set (padded n a xs) i x ≡ padded n a (set xs i x)
  set_padded n xs i x h k =
      let same = length-set xs i x in
      rw (padded_is n xs h, set-append_left xs (replicate (n - length xs) a) i x k, padded_is n (set xs i x) (omega arith), same)

  -- One more place is used.
  pub more_padded : (n : ℕ) (xs : List A) (x : A) → length xs < n → set (padded n a xs) (length xs) x ≡ padded n a (xs ++ (x ∷ []))
  more_padded n xs x h =
      let long : length (xs ++ (x ∷ [])) ≡ length xs + 1 = length-append xs (x ∷ []) in
      let e : n - length xs ≡ suc (n - length (xs ++ (x ∷ []))) = omega arith in
      rw (padded_is n xs (omega arith), e, set-append_seam xs a (replicate (n - length (xs ++ (x ∷ []))) a) x, padded_is n (xs ++ (x ∷ [])) (omega arith))
      (sym (append_assoc xs (x ∷ []) (replicate (n - length (xs ++ (x ∷ []))) a)))

  snoc_replicate : (n : ℕ) → replicate n a ++ (a ∷ []) ≡ replicate (suc n) a
  snoc_replicate zero = refl
  snoc_replicate (suc n) = ap (λ (l : List A). a ∷ l) (snoc_replicate n)

  -- The first place is given up, and the others move one down.
  pub rest-padded : (n : ℕ) (x : A) (xs : List A) → length xs < n → drop 1 (padded n a (x ∷ xs)) ++ (a ∷ []) ≡ padded n a xs
  rest-padded n x xs h =
      let e : n - length xs ≡ suc (n - suc (length xs)) = omega arith in
      rw (padded_is n (x ∷ xs) (omega arith), append_assoc xs (replicate (n - suc (length xs)) a) (a ∷ []), snoc_replicate (n - suc (length xs)))
      (sym (padded_is n xs (omega arith) ∙ ap (λ (k : ℕ). xs ++ replicate k a) e))

  -- all used places are changed
  pub front_padded : (n : ℕ) (xs ys : List A) → length xs ≤ n → length ys ≡ length xs → ys ++ drop (length xs) (padded n a xs) ≡ padded n a ys
  front_padded n xs ys h e =
      rw (padded_is n xs h, drop-append_seam xs (replicate (n - length xs) a), ← e) (sym (padded_is n ys (omega arith)))
