-- Refusals 1 to 6, for any number of lent vectors: only the length of the shortest counts.
-- What they answer, and what a caller knows of the table from it.
use Rattle.std.specs.Prelude.{◌≡◌, refl, Bool, true, false, ◌||◌, List, [], ◌∷◌, ◌++◌, ℕ, ◌≤◌, min, ltb, length, Result, Ok, None}
use Rattle.std.proofs.Common.{arith}
use Rattle.std.proofs.Math.Decide.{dec_lt}
use borrow.Author.Tests.{lt-ltb, le-ltb, ltb-false}
use Rattle.paper.specs.declared.Task.{Task}
use Rattle.paper.specs.declared.Table.{Table}
use Rattle.paper.specs.declared.Verdict.{Verdict}
use Rattle.paper.specs.declared.TableAnswer.{TableAnswer}
use Rattle.paper.specs.Places.{K}
use Rattle.paper.specs.View.{tasks_of}
use Rattle.paper.specs.Refusals.{when, one_shorter, refusal_4, refusal_5, overloaded_at, refusal_6}
use Rattle.paper.specs.declared.Refusal.{Refusal}
use Rattle.paper.specs.Refused.{Says}
use Rattle.paper.specs.Calls.{first_given, one_to_three, one_to_six}
use Rattle.theory.specs.Verdicts.{when_not, at_not, none_given, passed-front, given_front, or_true_right}
use Rattle.theory.specs.Ready.{Ready}
use Rattle.theory.specs.Said.{answered, says_answered}
use Rattle.table.specs.declared.JudgedTable.{JudgedTable}

-- ---- the refusals, for vectors of which the shortest has n places

abbrev pub four_to_six : List Task → ℕ → List Verdict
four_to_six ts n = refusal_4 ts ∷ when (ltb n (length (K ts))) 5 ∷ refusal_6 ts ∷ []

abbrev pub up_to_six : Table → ℕ → List Verdict
up_to_six t n = one_to_three t ++ four_to_six (tasks_of t) n

-- the table check's answer where it refuses
abbrev pub refused_answer : Verdict → TableAnswer
refused_answer v = record { number = v.number; place = v.place; window = 0; places = 0; idle = 0 }

-- ---- they are the paper's, for any list of lent vectors

unfoldable pub shortest : List ℕ → List (List ℕ) → ℕ
shortest v [] = length v
shortest v (u ∷ us) = min (length v) (shortest u us)

or_ltb : (a b n : ℕ) → ltb a n || ltb b n ≡ ltb (min a b) n
or_ltb a b n =
    elim (dec_lt a n) [
      | yes l ↦ rw (lt-ltb a n l, lt-ltb (min a b) n (omega arith))
      | no l ↦
          elim (dec_lt b n) [
            | yes m ↦ rw (lt-ltb (min a b) n (omega arith)) (or_true_right (ltb a n) (lt-ltb b n m))
            | no m ↦ rw (le-ltb a n (omega arith), le-ltb b n (omega arith), le-ltb (min a b) n (omega arith))
          ]
    ]

or_none : (a : Bool) → a || false ≡ a
or_none true = refl
or_none false = refl

one_shorter_lem : (n : ℕ) (v : List ℕ) (vs : List (List ℕ)) → one_shorter n (v ∷ vs) ≡ ltb (shortest v vs) n
unfolding one_shorter shortest
one_shorter_lem n v [] = or_none (ltb (length v) n)
one_shorter_lem n v (u ∷ us) = rw (one_shorter_lem n u us) (or_ltb (length v) (shortest u us) n)

pub six_lent : (t : Table) (v : List ℕ) (vs : List (List ℕ)) → up_to_six t (shortest v vs) ≡ one_to_six t (v ∷ vs)
unfolding refusal_5
six_lent t v vs = rw (one_shorter_lem (length (K (tasks_of t))) v vs)

-- ---- what a caller knows

-- a table that passes 1 to 6
pub record Passed (t : Table) (n : ℕ) (j : JudgedTable) : Type 0 where
  pub table_is : j.checked.within.table ≡ t
  pub is_ready : Ready t j.checked.window
  pub places_are : j.places ≡ length (K (tasks_of t))
  pub few : length (K (tasks_of t)) ≤ 1024
  pub room : length (K (tasks_of t)) ≤ n
  pub fits : overloaded_at (tasks_of t) ≡ None

-- A table that passes 4 has no more than 1,024 places.
pub four_passed : (ts : List Task) → (refusal_4 ts).number ≡ 0 → length (K ts) ≤ 1024
unfolding refusal_4
four_passed ts e = ltb-false 1024 (length (K ts)) (when_not (ltb 1024 (length (K ts))) 3 e)

-- One that passes 6 has no time at which more work is due than there is time.
pub six_fits : (ts : List Task) → (refusal_6 ts).number ≡ 0 → overloaded_at ts ≡ None
unfolding refusal_6
six_fits ts e = at_not (overloaded_at ts) 5 e

-- Where a list gives nothing, its front gives nothing.
pub none_given_front : (rs ss : List Verdict) → (first_given (rs ++ ss)).number ≡ 0 → (first_given rs).number ≡ 0
none_given_front rs ss e =
    elim (dec_lt 0 (first_given rs).number) [
      | yes l ↦ rw (given_front rs ss l) at e
      | no l ↦ omega arith
    ]

module _ (t : Table) (n : ℕ) (j : JudgedTable) (same : j.checked.within.table ≡ t) (counted : j.places ≡ length (K (tasks_of t))) where
  -- A checked table with the number of its places passes where the paper's verdict has no number: it alone says that the places
  -- are few and have room, and that the work fits.
  pub six_passed : (first_given (up_to_six t n)).number ≡ 0 → Passed t n j
  six_passed z =
      let ts = tasks_of t in
      let front = none_given_front (one_to_three t) (four_to_six ts n) z in
      let a = none_given (four_to_six ts n) (rw (passed-front (one_to_three t) (four_to_six ts n) front) at z) in
      record {
        table_is = same;
        is_ready = rw same at j.checked.ready;
        places_are = counted;
        few = four_passed ts a.0;
        room = ltb-false n (length (K ts)) (when_not (ltb n (length (K ts))) 4 a.1.0);
        fits = six_fits ts a.1.1.0;
      }

abbrev pub JudgedSix : Table → ℕ → Result JudgedTable Refusal → Type 0
JudgedSix t n x = Says (first_given (up_to_six t n)) (Passed t n) x

module _ (t : Table) (n : ℕ) (x : Result JudgedTable Refusal) (q : JudgedSix t n x) where
  -- The paper's verdict is what a judgement answers.
  pub six_verdict : first_given (up_to_six t n) ≡ answered x
  six_verdict = says_answered (first_given (up_to_six t n)) (Passed t n) x q

  module _ (j : JudgedTable) (e : x ≡ Ok j) where
    -- Where it answers a table, the verdict has no number,
    pub six_passes : (first_given (up_to_six t n)).number ≡ 0
    six_passes = rw (six_verdict, e)

    -- and that table passes.
    pub six_answered : Passed t n j
    six_answered = (rw e at q).1
