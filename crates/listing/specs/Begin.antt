-- The beginning of a listing: its first line and the run that is left, or the line of a bad file or table and a run of no slots.
use Rattle.std.specs.Prelude.{ℕ, ◌+◌, ◌≡◌}
use Rattle.std.proofs.Math.Path.{refl, ap}
use Rattle.std.proofs.Common.{◌∙◌, arith, eq-eqb, ne_eqb}
use mathlib.Core.List.{List, [], ◌∷◌, ◌++◌, append-nil}
use Rattle.std.proofs.Math.Decide.{ℕ_discrete}
use Rattle.std.proofs.Math.Nat.{sub-zero}
use Rattle.std.proofs.Math.ListN.{length}
use Rattle.paper.specs.View.{tasks_of}
use Rattle.paper.specs.Refusals.{refusal_4, refusal_6}
use Rattle.paper.specs.Calls.{accepted, one_to_three}
use Rattle.paper.specs.Fields.{read, table_in, boot_verdict, slots_of, fields_answer}
use Rattle.paper.specs.Listing.{first_line, bad_line, run_from, listing}
use Rattle.theory.specs.Verdicts.{none_given}
use Rattle.fields.proofs.OnDemand.{file_arrivals}
use Rattle.decimal.specs.Written.{Wrote, written, wrote_shown, wrote_inside}
use Rattle.listing.specs.Run.{shown, run_of, begun}
use Rattle.listing.specs.Turns.{rest}
use Rattle.listing.specs.Part.{Inside, told}

module _ (bs : List ℕ) where
  abbrev beginning : List ℕ
  beginning = first_line ++ accepted (boot_verdict bs) [] (bad_line (boot_verdict bs))

  -- what is written stands at the buffer's start
  begun-shown : (first : List ℕ) → shown (begun bs first) ≡ beginning
  unfolding begun
  begun-shown first =
      let w : Wrote first 0 beginning (0 + length beginning) (written first 0 beginning) = record { place = refl; bytes = refl } in
      wrote_shown (omega arith) w

  pub begun-inside : (first : List ℕ) → Inside (begun bs first)
  unfolding begun
  begun-inside first =
      let w : Wrote first 0 beginning (0 + length beginning) (written first 0 beginning) = record { place = refl; bytes = refl } in
      wrote_inside (omega arith) w

  file_passes : (boot_verdict bs).number ≡ 0 → (read bs).verdict.number ≡ 0
  unfolding boot_verdict
  file_passes e =
      (none_given ((read bs).verdict ∷ (one_to_three (table_in bs) ++ (refusal_4 (tasks_of (table_in bs)) ∷ refusal_6 (tasks_of (table_in bs)) ∷ []))) e).0

  begun-run : (boot_verdict bs).number ≡ 0 → beginning ++ rest bs (run_of bs) ≡ listing bs
  unfolding listing rest fields_answer
  begun-run e = rw (eq-eqb (boot_verdict bs).number 0 e, file_arrivals bs (file_passes e), sub-zero (slots_of (read bs).file.slots))

  begun-bad : ((boot_verdict bs).number ≡ 0 → ⊥) → beginning ++ rest bs (run_of bs) ≡ listing bs
  unfolding listing rest run_from
  begun-bad e = rw (ne_eqb (boot_verdict bs).number 0 e) (append-nil (first_line ++ bad_line (boot_verdict bs)))

  -- what the beginning writes, and what it leaves
  pub begun-told : (first : List ℕ) → told bs (begun bs first) ≡ listing bs
  unfolding begun rest
  begun-told first =
      ap (λ (l : List ℕ). l ++ rest bs (run_of bs)) (begun-shown first)
      ∙ elim (ℕ_discrete (boot_verdict bs).number 0) [ yes e ↦ begun-run e | no e ↦ begun-bad e ]
