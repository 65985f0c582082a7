-- "Numbers to check": the starred numbers, as one list, and one test over it. Tasks as (C, R, P).
-- Each is asked of the calls; the states are those of the paper's own runs, made by the calls from power-on.
use Rattle.std.specs.Prelude.{ℕ, ◌≡◌, refl, true, List, [], ◌∷◌, ◌++◌, length}
use Rattle.paper.specs.declared.Task.{Task}
use Rattle.paper.specs.declared.State.{State}
use Rattle.paper.specs.declared.Latest.TheVariants.{None as NoLatest, By}
use Rattle.paper.specs.Asked.{of, slots, arrival, state_at, text, Asked, table, moving, admission, run, listed, all_hold}
pub use Rattle.paper.specs.Asked.{M, lent}

abbrev pub single : List Task
single = of 2 3 5 ∷ []

abbrev pub over : List Task
over = of 2 2 4 ∷ of 2 3 4 ∷ []

abbrev pub tight : List Task
tight = of 1 1 2 ∷ of 1 2 2 ∷ []

-- M at power-on; "the run above", after its slot 0 and at 3; "M at 9, no job so far"
abbrev pub at_0 : State
at_0 = state_at M []

abbrev pub at_1 : State
at_1 = state_at M (slots 1 ∷ [])

abbrev pub at_3 : State
at_3 = state_at M (slots 1 ∷ arrival 2 ∷ slots 2 ∷ [])

abbrev pub at_9 : State
at_9 = state_at M (slots 9 ∷ [])

-- "Input 01 06 00 02 00 03 00 05 00, 01 06 00 02 00 08 00 0A 00, 02 06 00 01 00 00 00 02 00, 03 04 00 0A 00 00 00 prints, one to a line"
abbrev pub input : List ℕ
input =
    1 ∷ 6 ∷ 0 ∷ 2 ∷ 0 ∷ 3 ∷ 0 ∷ 5 ∷ 0  -- a task: 2, 3, 5
    ∷ 1 ∷ 6 ∷ 0 ∷ 2 ∷ 0 ∷ 8 ∷ 0 ∷ 10 ∷ 0  -- a task: 2, 8, 10
    ∷ 2 ∷ 6 ∷ 0 ∷ 1 ∷ 0 ∷ 0 ∷ 0 ∷ 2 ∷ 0  -- an arrival: slot 1, work 2
    ∷ 3 ∷ 4 ∷ 0 ∷ 10 ∷ 0 ∷ 0 ∷ 0  -- ten slots
    ∷ []

abbrev pub printed : List ℕ
printed =
    text "slot who\n"
    ++ text "0 P1\n"
    ++ text "a 1 2 4\n"
    ++ text "1 P1\n"
    ++ text "2 S4\n"
    ++ text "3 S4\n"
    ++ text "4 P2\n"
    ++ text "5 P1\n"
    ++ text "6 P1\n"
    ++ text "7 P2\n"
    ++ text "8 -\n"
    ++ text "9 -\n"

abbrev pub starred : List Asked
starred =
    -- "M: W 10, K 0 3 8, D 1 1 2, F 4."
    table M (0 ∷ 0 ∷ 10 ∷ 3 ∷ 4 ∷ []) (0 ∷ 3 ∷ 8 ∷ 7 ∷ 7 ∷ []) (1 ∷ 1 ∷ 2 ∷ 7 ∷ 7 ∷ [])
    -- "M at 0: work 1, 3, 4, 5 give promises 1, 9, 10, 11. Work 30,000 gives 75,000; 30,001 is refused 10."
    ∷ admission M at_0 1 NoLatest (0 ∷ 0 ∷ 1 ∷ [])
    ∷ admission M at_0 3 NoLatest (0 ∷ 0 ∷ 9 ∷ [])
    ∷ admission M at_0 4 NoLatest (0 ∷ 0 ∷ 10 ∷ [])
    ∷ admission M at_0 5 NoLatest (0 ∷ 0 ∷ 11 ∷ [])
    ∷ admission M at_0 30000 NoLatest (0 ∷ 0 ∷ 75000 ∷ [])
    ∷ admission M at_0 30001 NoLatest (10 ∷ 0 ∷ 0 ∷ [])
    -- "M, the run above, at 3: Y 0 1 2; work 4 gives 14. Latest 14 accepts, 13 is refused 14."
    ∷ moving M at_3 (0 ∷ 0 ∷ 3 ∷ []) (0 ∷ 3 ∷ 8 ∷ 7 ∷ 7 ∷ []) (1 ∷ 1 ∷ 2 ∷ 7 ∷ 7 ∷ []) (0 ∷ 1 ∷ 2 ∷ 7 ∷ 7 ∷ [])
    ∷ admission M at_3 4 NoLatest (0 ∷ 0 ∷ 14 ∷ [])
    ∷ admission M at_3 4 (By (record { 0 = 14 })) (0 ∷ 0 ∷ 14 ∷ [])
    ∷ admission M at_3 4 (By (record { 0 = 13 })) (14 ∷ 0 ∷ 0 ∷ [])
    -- "M at 9, no job so far: Y 0 0 1; work 2 gives 11."
    ∷ moving M at_9 (0 ∷ 0 ∷ 3 ∷ []) (0 ∷ 3 ∷ 8 ∷ 7 ∷ 7 ∷ []) (1 ∷ 1 ∷ 2 ∷ 7 ∷ 7 ∷ []) (0 ∷ 0 ∷ 1 ∷ 7 ∷ 7 ∷ [])
    ∷ admission M at_9 2 NoLatest (0 ∷ 0 ∷ 11 ∷ [])
    -- "(2,3,5): K 0 3, D 1 2. (2,2,4), (2,3,4): refused 6 at 3, though its load is 1."
    ∷ table single (0 ∷ 0 ∷ 5 ∷ 2 ∷ 3 ∷ []) (0 ∷ 3 ∷ 7 ∷ 7 ∷ 7 ∷ []) (1 ∷ 2 ∷ 7 ∷ 7 ∷ 7 ∷ [])
    ∷ table over (6 ∷ 3 ∷ 0 ∷ 0 ∷ 0 ∷ []) lent lent
    -- "(1,1,2), (1,2,2): accepted, F 0, any good work refused 12." (12 does not look at the work.)
    ∷ table tight (0 ∷ 0 ∷ 2 ∷ 3 ∷ 0 ∷ []) (0 ∷ 1 ∷ 2 ∷ 7 ∷ 7 ∷ []) (0 ∷ 0 ∷ 0 ∷ 7 ∷ 7 ∷ [])
    ∷ admission tight (state_at tight []) 1 NoLatest (12 ∷ 0 ∷ 0 ∷ [])
    ∷ admission tight (state_at tight []) 30000 NoLatest (12 ∷ 0 ∷ 0 ∷ [])
    -- "The run program": M with work 2 at 1, which gets the promise 4; task 1 is ready as bit 0, task 2 as bit 1
    ∷ admission M at_1 2 NoLatest (0 ∷ 0 ∷ 4 ∷ [])
    ∷ run M at_0 ((0 ∷ 3 ∷ 1 ∷ []) ∷ [])
    ∷ run M (state_at M (slots 1 ∷ arrival 2 ∷ []))
    ((0 ∷ 2 ∷ 1 ∷ [])
    ∷ (0 ∷ 2 ∷ 17 ∷ 4 ∷ [])
    ∷ (0 ∷ 2 ∷ 17 ∷ 4 ∷ [])
    ∷ (0 ∷ 3 ∷ 2 ∷ [])
    ∷ (0 ∷ 3 ∷ 1 ∷ [])
    ∷ (0 ∷ 2 ∷ 1 ∷ [])
    ∷ (0 ∷ 0 ∷ 2 ∷ [])
    ∷ (0 ∷ 0 ∷ 0 ∷ [])
    ∷ (0 ∷ 3 ∷ 0 ∷ [])
    ∷ [])
    ∷ listed input printed
    ∷ []

-- THE STARRED NUMBERS
pub stars : all_hold starred ≡ true
unfolding all_hold
stars = refl

-- how many they are
pub stars_count : length starred ≡ 22
stars_count = refl
