-- What the fields and their table come to: the reader's refusal, or else what the table check answers where 1,024 places are lent. 5 is never
-- given then, because more places are 4.
use mathlib.Core.Path.{◌≡◌, refl, sym, ap, ◌∙◌}
use mathlib.Core.Bool.{Bool, true, false, cond}
use mathlib.Core.List.{List, [], ◌∷◌, ◌++◌}
use Prim.Native.Nat.{ℕ, ◌<◌}
use lib.Dec.{ltb, eqb}
use lib.ListN.{length}
use Rattle.paper.specs.declared.Task.{Task}
use Rattle.paper.specs.declared.Table.{Table}
use Rattle.paper.specs.declared.Verdict.{Verdict}
use Rattle.paper.specs.declared.FieldsAnswer.{FieldsAnswer}
use Rattle.paper.specs.declared.BootAnswer.{BootAnswer}
use Rattle.paper.specs.declared.Refusal.{Refusal}
use Rattle.paper.specs.Refused.{verdict_of}
use Rattle.paper.specs.Window.{window}
use Rattle.paper.specs.Places.{K}
use Rattle.paper.specs.View.{tasks_of}
use Rattle.paper.specs.Refusals.{passed, when, refusal_4, refusal_6}
use Rattle.paper.specs.Calls.{first_given, one_to_three}
use Rattle.paper.specs.Fields.{fields_answer, boot_verdict, boot_by, boot_call}
use Rattle.theory.specs.Verdicts.{given_first, passed_first, refused_is}
use Rattle.theory.specs.Said.{numbered_from1}
use Rattle.table.specs.Six.{four_to_six, up_to_six}

five_after_four : (b : Bool) (r : Verdict) → first_given (when b 4 ∷ when b 5 ∷ r ∷ []) ≡ first_given (when b 4 ∷ r ∷ [])
unfolding first_given
five_after_four true r = refl
five_after_four false r = refl

five_never : (ts : List Task) → first_given (four_to_six ts 1024) ≡ first_given (refusal_4 ts ∷ refusal_6 ts ∷ [])
unfolding refusal_4
five_never ts = five_after_four (ltb 1024 (length (K ts))) (refusal_6 ts)

same_rest : (rs ss us : List Verdict) → first_given ss ≡ first_given us → first_given (rs ++ ss) ≡ first_given (rs ++ us)
unfolding first_given
same_rest [] ss us e = e
same_rest (r ∷ rs) ss us e = ap (λ (v : Verdict). cond (eqb r.number 0) v r) (same_rest rs ss us e)

-- a refusal, as C reads it
abbrev pub refused_by : Verdict → BootAnswer
refused_by v = record { number = v.number; place = v.place; window = 0 }

module _ (v : Verdict) (t : Table) where
  abbrev verdict : Verdict
  verdict = first_given (v ∷ (one_to_three t ++ (refusal_4 (tasks_of t) ∷ refusal_6 (tasks_of t) ∷ [])))

  -- what the fields' verdict v and their table t come to
  abbrev pub judged : BootAnswer
  judged = boot_by verdict (tasks_of t)

  -- the fields are refused
  pub by_fields : 0 < v.number → judged ≡ refused_by v
  by_fields h = rw (given_first v _ h, refused_is v _ _ h)

  -- they are not, and the table is judged
  module _ (e : v.number ≡ 0) where
    by_six : verdict ≡ first_given (up_to_six t 1024)
    by_six = passed_first v _ e ∙ sym (same_rest (one_to_three t) (four_to_six (tasks_of t) 1024) _ (five_never (tasks_of t)))

    pub by_table : (r : Refusal) → first_given (up_to_six t 1024) ≡ verdict_of r → judged ≡ refused_by (verdict_of r)
    by_table r s = rw (by_six ∙ s, refused_is (verdict_of r) _ _ (numbered_from1 r))

    pub accepted : first_given (up_to_six t 1024) ≡ passed → judged ≡ record { number = 0; place = 0; window = window (tasks_of t) }
    accepted s = rw (by_six ∙ s)

-- of the fields as they were read, that is the boot call
pub of_fields : (bs : List ℕ) (f : FieldsAnswer) → f ≡ fields_answer bs → judged (record { number = f.number; place = f.place }) f.table ≡ boot_call bs
unfolding fields_answer boot_verdict boot_call
of_fields bs f e = rw e
