-- Refusals 1 to 6, in this order, from what the code has tested; and the table check's outcome.
use Rattle.std.specs.Prelude.{◌≡◌, List, [], ◌∷◌, ℕ, ◌≤◌, ◌<◌, ltb, length, min, Result, Ok, Err, None, Some}
use Rattle.std.proofs.Common.{sym, ap, ◌∙◌, arith}
use borrow.Author.Tests.{lt-ltb, le-ltb, ne_eqb}
use Rattle.paper.specs.declared.Table.{Table}
use Rattle.paper.specs.declared.Refusal.{Refusal}
use Rattle.paper.specs.declared.Refusal.TheVariants.{VectorTooShort, Overloaded}
use Rattle.paper.specs.Window.{window}
use Rattle.paper.specs.Places.{K}
use Rattle.paper.specs.Vectors.{D, F}
use Rattle.paper.specs.View.{tasks_of}
use Rattle.paper.specs.Refusals.{passed, when, refusal_4, overloaded_at, refusal_6}
use Rattle.paper.specs.Refused.{Says, verdict_of}
use Rattle.paper.specs.Calls.{first_given, filled, one_to_three, table_verdict, table_call}
use Rattle.theory.specs.Verdicts.{when_given, when_passed}
use Rattle.theory.specs.OneVerdict.{one_at}
use Rattle.theory.specs.Said.{numbered_from1, said_first, pass_first, said_front, pass_front}
use Rattle.places.specs.declared.Count.{Count}
use Rattle.places.specs.Counted.{AllCounted}
use Rattle.table.specs.Six.{four_to_six, up_to_six, shortest, six_lent, refused_answer}

-- what the count of the places of a table says of refusal 4
module _ (t u : Table) (q : u ≡ t) (x : Result Count Refusal) (s : Says (refusal_4 (tasks_of u)) (AllCounted (tasks_of u)) x) where
  pub count_said : (r : Refusal) → x ≡ Err r → refusal_4 (tasks_of t) ≡ verdict_of r
  count_said r e = rw (q, e) at s

  pub count_passed : (c : Count) → x ≡ Ok c → (refusal_4 (tasks_of t) ≡ passed) × AllCounted (tasks_of t) c
  count_passed c e = rw (q, e) at s

module _ (t : Table) (n : ℕ) where
  -- what refusals 1 to 3 say is said, or the others decide
  pub said_3 : (r : Refusal) → first_given (one_to_three t) ≡ verdict_of r → first_given (up_to_six t n) ≡ verdict_of r
  said_3 r e = said_front (one_to_three t) (four_to_six (tasks_of t) n) r e

  module _ (e3 : first_given (one_to_three t) ≡ passed) where
    after-3 : first_given (up_to_six t n) ≡ first_given (four_to_six (tasks_of t) n)
    after-3 = pass_front (one_to_three t) (four_to_six (tasks_of t) n) e3

    pub said_4 : (r : Refusal) → refusal_4 (tasks_of t) ≡ verdict_of r → first_given (up_to_six t n) ≡ verdict_of r
    said_4 r e = after-3 ∙ said_first (when (ltb n (length (K (tasks_of t)))) 5 ∷ refusal_6 (tasks_of t) ∷ []) r e

    module _ (e4 : refusal_4 (tasks_of t) ≡ passed) where
      after-4 : first_given (up_to_six t n) ≡ first_given (when (ltb n (length (K (tasks_of t)))) 5 ∷ refusal_6 (tasks_of t) ∷ [])
      after-4 = after-3 ∙ pass_first (when (ltb n (length (K (tasks_of t)))) 5 ∷ refusal_6 (tasks_of t) ∷ []) e4

      pub said_5 : n < length (K (tasks_of t)) → first_given (up_to_six t n) ≡ verdict_of VectorTooShort
      said_5 h = after-4 ∙ said_first (refusal_6 (tasks_of t) ∷ []) VectorTooShort (when_given 5 (lt-ltb n (length (K (tasks_of t))) h))

      module _ (h : length (K (tasks_of t)) ≤ n) where
        after-5 : first_given (up_to_six t n) ≡ refusal_6 (tasks_of t)
        unfolding refusal_6
        after-5 =
            after-4 ∙ pass_first (refusal_6 (tasks_of t) ∷ []) (when_passed 5 (le-ltb n (length (K (tasks_of t))) h))
            ∙ one_at (overloaded_at (tasks_of t)) 5

        pub said_6 : (u : ℕ) → Some u ≡ overloaded_at (tasks_of t) → first_given (up_to_six t n) ≡ verdict_of (Overloaded u)
        unfolding refusal_6
        said_6 u e = after-5 ∙ rw (← e)

        pub none_said : None ≡ overloaded_at (tasks_of t) → first_given (up_to_six t n) ≡ passed
        unfolding refusal_6
        none_said e = after-5 ∙ rw (← e)

-- ---- the outcome

module _ (t : Table) (k d : List ℕ) (n : ℕ) (m : n ≡ min (length k) (length d)) where
  verdict_is : table_verdict t k d ≡ first_given (up_to_six t n)
  unfolding table_verdict shortest
  verdict_is = rw m (ap first_given (sym (six_lent t k (d ∷ []))))

  pub call_refused : (r : Refusal) → first_given (up_to_six t n) ≡ verdict_of r
      → record { answer = refused_answer (verdict_of r); k = k; d = d } ≡ table_call t k d
  unfolding table_call
  call_refused r e = rw (verdict_is, e, ne_eqb (verdict_of r).number 0 (λ z. omega (arith, numbered_from1 r)))

  pub call_accepted : first_given (up_to_six t n) ≡ passed → (w p f : ℕ) (k' d' : List ℕ) → w ≡ window (tasks_of t) → p ≡ length (K (tasks_of t)) → f ≡ F (tasks_of t)
      → k' ≡ filled (K (tasks_of t)) k → d' ≡ filled (D (tasks_of t)) d
      → record { answer = record { number = 0; place = 0; window = w; places = p; idle = f }; k = k'; d = d' } ≡ table_call t k d
  unfolding table_call
  call_accepted v w p f k' d' ew ep ef ek ed = rw (verdict_is, v, ew, ep, ef, ek, ed)
