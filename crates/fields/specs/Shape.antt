-- The refusals of a field in their two parts: those of its bytes alone, and those of the fields before it.
use Rattle.std.specs.Prelude.{ℕ, ◌≡◌, refl, Bool, ◌&&◌, ◌||◌, List, [], ◌∷◌, ◌++◌, leb, ltb, eqb, length}
use Rattle.paper.specs.declared.Verdict.{Verdict}
use Rattle.paper.specs.Calls.{first_given}
use Rattle.paper.specs.Fields.{File, tag, body_length, field_length, task_in, arrival_in, slots_in, wrong_length, wrong_order, placed, ended, field_verdict}
use Rattle.fields.specs.declared.Body.{Body}
use Rattle.fields.specs.declared.Body.TheVariants.{Task, Arrival, Slots}

-- what a field of these bytes says, by its tag
abbrev pub IsBody : List ℕ → Body → Type 0
IsBody bs (Task t) = (tag bs ≡ 1) × (t ≡ task_in bs)
IsBody bs (Arrival a) = (tag bs ≡ 2) × (a ≡ arrival_in bs)
IsBody bs (Slots n) = (tag bs ≡ 3) × (n ≡ slots_in bs)

abbrev pub many_tasks : ℕ → List ℕ → Bool
many_tasks n bs = eqb (tag bs) 1 && leb 16 n

abbrev pub long_run : List ℕ → Bool
long_run bs = eqb (tag bs) 3 && ltb 100000 (slots_in bs)

abbrev pub shape_refusals : ℕ → List ℕ → List Verdict
shape_refusals p bs =
    placed (ltb (length bs) 3) 16 p
    ∷ placed (eqb (tag bs) 0 || ltb 3 (tag bs)) 17 p
    ∷ placed (wrong_length (tag bs) (body_length bs)) 18 p
    ∷ placed (ltb (length bs) (field_length bs)) 16 p
    ∷ []

abbrev pub order_refusals : File → ℕ → List ℕ → List Verdict
order_refusals f p bs =
    placed (wrong_order f bs) 19 p
    ∷ placed (many_tasks (length f.tasks) bs) 1 p
    ∷ placed (long_run bs) 21 p
    ∷ []

pub in_two_parts : (f : File) (p : ℕ) (bs : List ℕ)
    → field_verdict f p bs ≡ first_given (placed (ended f.slots) 19 p ∷ (shape_refusals p bs ++ order_refusals f p bs))
unfolding field_verdict
in_two_parts f p bs = refl
