-- Numbers of our own, as one list in the form of Stars.antt: both sides of every refusal, the order of each call's refusals, what a
-- refusal leaves alone, and the fields and lines byte by byte. Each is worked out from the sentence above it.
-- A definition that slips by one, or in its order, is caught here even where no theorem depends on it.
use Rattle.std.specs.Prelude.{ℕ, ◌≡◌, refl, true, List, [], ◌∷◌, ◌++◌, length, replicate}
use Rattle.paper.specs.declared.Task.{Task}
use Rattle.paper.specs.declared.Job.{Job}
use Rattle.paper.specs.declared.State.{State}
use Rattle.paper.specs.declared.Latest.{Latest}
use Rattle.paper.specs.declared.Latest.TheVariants.{None as NoLatest, By}
use Rattle.paper.specs.Asked.{of, M, lent, done, left, job, state_from, state, text, state_at, Asked, powers_on}
use Rattle.paper.specs.Asked.{table_lent, moving_lent, admission_lent, admission, slot, run, fields, boot, listed, table, moving, all_hold}
use Rattle.paper.specs.Stars.{over, tight, input}

-- ---- short forms

-- "The clock goes up to H = 1,099,511,627,776 (2^40)": H, the slot before it, and one more; M's offset at H is 6
abbrev pub end : ℕ
end = 1099511627776

abbrev pub before_end : ℕ
before_end = 1099511627775

abbrev pub past_end : ℕ
past_end = 1099511627777

abbrev pub by : ℕ → Latest
by n = By (record { 0 = n })

-- "A refusal gives number and place and the old state, every other number of the answer 0." "Refusals asked before 9 touch no vector."
-- The state all zero where power-on is refused.
abbrev pub power_on_refused : List Task → (number place : ℕ) → Asked
power_on_refused ts n p = powers_on ts (n ∷ p ∷ []) (state 0 [] [] 0 0)

abbrev pub table_refused : List Task → (number place : ℕ) → Asked
table_refused ts n p = table ts (n ∷ p ∷ 0 ∷ 0 ∷ 0 ∷ []) lent lent

abbrev pub moving_refused : List Task → State → (number place : ℕ) → Asked
moving_refused ts s n p = moving ts s (n ∷ p ∷ 0 ∷ []) lent lent lent

abbrev pub admission_refused : List Task → State → (work : ℕ) → Latest → (number place : ℕ) → Asked
admission_refused ts s w latest n p = admission_lent ts s w latest lent lent lent (n ∷ p ∷ 0 ∷ []) s lent lent lent

-- it says idle, and its ready word is 0
abbrev pub slot_refused : List Task → State → (number place : ℕ) → Asked
slot_refused ts s n p = slot ts s (n ∷ p ∷ 0 ∷ 0 ∷ []) s

-- M's moving vectors: K 0 3 8, D 1 1 2, and this Y
abbrev pub moving_M : State → (y : List ℕ) → Asked
moving_M s y = moving M s (0 ∷ 0 ∷ 3 ∷ []) (0 ∷ 3 ∷ 8 ∷ 7 ∷ 7 ∷ []) (1 ∷ 1 ∷ 2 ∷ 7 ∷ 7 ∷ []) (y ++ (7 ∷ 7 ∷ []))

-- "From 9 in a call's order on, and on acceptance, K, D and Y hold this paper's numbers in their first places ... and the rest is untouched":
-- an admission to M that comes as far as 9, lent vectors of five, four and six places
abbrev pub admission_M : State → (work : ℕ) → Latest → (answer : List ℕ) → State → (y : List ℕ) → Asked
admission_M s w latest a s' y =
    admission_lent M s w latest (replicate 5 7) (replicate 4 8) (replicate 6 9) a s'
    (0 ∷ 3 ∷ 8 ∷ 7 ∷ 7 ∷ []) (1 ∷ 1 ∷ 2 ∷ 8 ∷ []) (y ++ (9 ∷ 9 ∷ 9 ∷ []))

-- refused from 9 on: the promise is 0 and the state the old one
abbrev pub refused_M : State → (work : ℕ) → Latest → (number : ℕ) → (y : List ℕ) → Asked
refused_M s w latest n y = admission_M s w latest (n ∷ 0 ∷ 0 ∷ []) s y

-- M at power-on with these jobs; its idle slots end at 1, 4, 9, 10, 11, 14, 19, 20 and so on
abbrev pub at_0 : List Job → State
at_0 js = state 0 (left 2 ∷ left 2 ∷ []) js 0 0

abbrev pub seven_jobs : List Job
seven_jobs = job 1 1 ∷ job 1 4 ∷ job 1 9 ∷ job 1 10 ∷ job 1 11 ∷ job 1 14 ∷ job 1 19 ∷ []

-- M at 2, after an idle slot and one of task 1: Y 0 1 2
abbrev pub at_2 : List Job → (given idle : ℕ) → State
at_2 js a i = state 2 (left 1 ∷ left 2 ∷ []) js a i

-- M one slot before H, at offset 5, no job so far: one idle slot has gone by, task 1 is released anew; Y 0 1 2
abbrev pub near_end : List Job → State
near_end js = state before_end (left 2 ∷ done ∷ []) js 0 1

-- ---- tables that are refused twice

-- 1 and 2; 2 and 3; 3 and 4; 4, 6 and, with five places lent, 5
abbrev pub many_broken : List Task
many_broken = replicate 17 (of 0 3 5)

abbrev pub broken_long : List Task
broken_long = of 0 9999 9999 ∷ of 1 10000 10000 ∷ []

abbrev pub long_crowded : List Task
long_crowded = of 1 1 1 ∷ of 1 19 19 ∷ of 1 1579 1579 ∷ []

abbrev pub crowded : List Task
crowded = of 1 1 1 ∷ of 1 1024 1024 ∷ []

-- W 30,001 and W 30,000
abbrev pub long : List Task
long = of 1 19 19 ∷ of 1 1579 1579 ∷ []

abbrev pub longest : List Task
longest = of 1 3000 3000 ∷ of 1 10000 10000 ∷ []

-- for two of these tasks: more is left than C
abbrev pub misshapen : State
misshapen = state 0 (left 3 ∷ left 3 ∷ []) [] 0 0

-- ---- 1 to 6, of the table
abbrev pub of_tables : List Asked
of_tables =
    -- 1 "no task, or over 16"
    table_refused [] 1 0
    ∷ table (of 1 1 1 ∷ []) (0 ∷ 0 ∷ 1 ∷ 2 ∷ 0 ∷ []) (0 ∷ 1 ∷ 7 ∷ 7 ∷ 7 ∷ []) (0 ∷ 0 ∷ 7 ∷ 7 ∷ 7 ∷ [])
    ∷ table (replicate 16 (of 1 17 17)) (0 ∷ 0 ∷ 17 ∷ 2 ∷ 1 ∷ []) (0 ∷ 17 ∷ 7 ∷ 7 ∷ 7 ∷ []) (1 ∷ 0 ∷ 7 ∷ 7 ∷ 7 ∷ [])
    ∷ table_refused (replicate 17 (of 1 17 17)) 1 0
    -- 2 "a task breaks its limits": 1 ≤ C
    ∷ table_refused (of 0 3 5 ∷ []) 2 1
    ∷ table (of 1 3 5 ∷ []) (0 ∷ 0 ∷ 5 ∷ 2 ∷ 4 ∷ []) (0 ∷ 3 ∷ 7 ∷ 7 ∷ 7 ∷ []) (2 ∷ 2 ∷ 7 ∷ 7 ∷ 7 ∷ [])
    -- C ≤ R
    ∷ table (of 3 3 5 ∷ []) (0 ∷ 0 ∷ 5 ∷ 2 ∷ 2 ∷ []) (0 ∷ 3 ∷ 7 ∷ 7 ∷ 7 ∷ []) (0 ∷ 2 ∷ 7 ∷ 7 ∷ 7 ∷ [])
    ∷ table_refused (of 4 3 5 ∷ []) 2 1
    -- R ≤ P
    ∷ table (of 2 5 5 ∷ []) (0 ∷ 0 ∷ 5 ∷ 2 ∷ 3 ∷ []) (0 ∷ 5 ∷ 7 ∷ 7 ∷ 7 ∷ []) (3 ∷ 0 ∷ 7 ∷ 7 ∷ 7 ∷ [])
    ∷ table_refused (of 2 6 5 ∷ []) 2 1
    -- P ≤ 10,000
    ∷ powers_on (of 2 3 10000 ∷ []) (0 ∷ 0 ∷ []) (state 0 (left 2 ∷ []) [] 0 0)
    ∷ power_on_refused (of 2 3 10001 ∷ []) 2 1
    ∷ table_refused (of 2 3 10001 ∷ []) 2 1
    ∷ table_refused (of 0 0 0 ∷ []) 2 1
    -- "[first such, from 1]"
    ∷ table_refused (of 2 3 5 ∷ of 0 8 10 ∷ []) 2 2
    ∷ table_refused (of 4 3 5 ∷ of 0 8 10 ∷ []) 2 1
    ∷ table_refused (replicate 15 (of 1 17 17) ++ (of 0 17 17 ∷ [])) 2 16
    -- 3 "W over 30,000": 19 · 1,579 is 30,001. With W 30,000 a slot and the boot call are asked, below
    ∷ table_refused long 3 0
    ∷ table_refused (of 1 9999 9999 ∷ of 1 10000 10000 ∷ []) 3 0
    -- 4 "K needs over 1,024 places": 0 and 1,024 deadlines, and 0 and 1,023, of which the last is missed
    ∷ table_refused crowded 4 0
    ∷ table_lent (of 1 1 1 ∷ of 1 1023 1023 ∷ []) (replicate 1024 7) (replicate 1024 7)
    (6 ∷ 1023 ∷ 0 ∷ 0 ∷ 0 ∷ []) (replicate 1024 7) (replicate 1024 7)
    ∷ table_refused (of 1 2 2 ∷ of 1 2045 2046 ∷ []) 4 0
    -- 5 "a lent vector is shorter than K": K, then D, and neither
    ∷ table_lent M (7 ∷ 7 ∷ []) lent (5 ∷ 0 ∷ 0 ∷ 0 ∷ 0 ∷ []) (7 ∷ 7 ∷ []) lent
    ∷ table_lent M lent (7 ∷ 7 ∷ []) (5 ∷ 0 ∷ 0 ∷ 0 ∷ 0 ∷ []) lent (7 ∷ 7 ∷ [])
    ∷ table_lent M (7 ∷ 7 ∷ 7 ∷ []) (8 ∷ 8 ∷ 8 ∷ []) (0 ∷ 0 ∷ 10 ∷ 3 ∷ 4 ∷ []) (0 ∷ 3 ∷ 8 ∷ []) (1 ∷ 1 ∷ 2 ∷ [])
    -- 6 "at some t the work of window requests due by t exceeds t [least t]": 4 by 3 and 6 by 5; 3 by 3; and 7 by 6, which is W
    ∷ table_refused (of 3 3 10 ∷ of 1 3 10 ∷ of 2 5 10 ∷ []) 6 3
    ∷ table (of 2 2 4 ∷ of 1 3 4 ∷ []) (0 ∷ 0 ∷ 4 ∷ 3 ∷ 1 ∷ []) (0 ∷ 2 ∷ 3 ∷ 7 ∷ 7 ∷ []) (0 ∷ 0 ∷ 1 ∷ 7 ∷ 7 ∷ [])
    ∷ table_refused (of 1 2 2 ∷ of 2 3 3 ∷ []) 6 6
    -- "(5,25,30), (10,40,50), (20,55,75) of 000: W 150, K 0 25 40 55 85 90 115 130 140 145, D 15 0 0 20 0 15 0 0 0 5, F 55."
    ∷ table_lent (of 5 25 30 ∷ of 10 40 50 ∷ of 20 55 75 ∷ []) (replicate 10 7) (replicate 10 7) (0 ∷ 0 ∷ 150 ∷ 10 ∷ 55 ∷ [])
    (0 ∷ 25 ∷ 40 ∷ 55 ∷ 85 ∷ 90 ∷ 115 ∷ 130 ∷ 140 ∷ 145 ∷ []) (15 ∷ 0 ∷ 0 ∷ 20 ∷ 0 ∷ 15 ∷ 0 ∷ 0 ∷ 0 ∷ 5 ∷ [])
    -- "In this order": 1, 2, 3, 5, where the next is given too; 4 before 5 and 6 is `crowded`, above
    ∷ table_refused many_broken 1 0
    ∷ table_refused broken_long 2 1
    ∷ table_refused long_crowded 3 0
    ∷ table_lent over (7 ∷ 7 ∷ []) lent (5 ∷ 0 ∷ 0 ∷ 0 ∷ 0 ∷ []) (7 ∷ 7 ∷ []) lent
    -- "Power-on state: 1, 2, a refusal giving the state all zero", and nothing else: W over 30,000, and 6
    ∷ power_on_refused [] 1 0
    ∷ power_on_refused many_broken 1 0
    ∷ power_on_refused (of 2 3 5 ∷ of 0 8 10 ∷ []) 2 2
    ∷ powers_on M (0 ∷ 0 ∷ []) (at_0 [])
    ∷ powers_on long (0 ∷ 0 ∷ []) (state 0 (left 1 ∷ left 1 ∷ []) [] 0 0)
    ∷ powers_on over (0 ∷ 0 ∷ []) (state 0 (left 2 ∷ left 2 ∷ []) [] 0 0)
    ∷ []

-- ---- 7 and 8, of the state: "Moving vectors: 1 to 8"
abbrev pub of_states : List Asked
of_states =
    -- 7 "state misshapen: now above H"
    moving_M (state end (left 1 ∷ done ∷ []) [] 0 0) (0 ∷ 1 ∷ 2 ∷ [])
    ∷ moving_refused M (state past_end (left 1 ∷ done ∷ []) [] 0 0) 7 0
    -- "left 0 or above C"; a request may be done at its own release
    ∷ moving_refused M (state 0 (left 0 ∷ left 2 ∷ []) [] 0 0) 7 0
    ∷ moving_M (state 0 (done ∷ left 2 ∷ []) [] 0 0) (3 ∷ 1 ∷ 2 ∷ [])
    ∷ moving_M (at_0 []) (1 ∷ 1 ∷ 2 ∷ [])
    ∷ moving_refused M (state 0 (left 3 ∷ left 2 ∷ []) [] 0 0) 7 0
    ∷ moving_refused M (state 0 (left 2 ∷ left 3 ∷ []) [] 0 0) 7 0
    -- "over 8 jobs"
    ∷ moving_M (at_0 (seven_jobs ++ (job 1 20 ∷ []))) (1 ∷ 1 ∷ 2 ∷ [])
    ∷ moving_refused M (state_from 0 (left 2 ∷ left 2 ∷ []) (seven_jobs ++ (job 1 20 ∷ [])) 9 0 0) 7 0
    -- "job left 0 or above 30,000"
    ∷ moving_refused M (at_0 (job 0 5 ∷ [])) 7 0
    ∷ moving_M (at_0 (job 1 5 ∷ [])) (1 ∷ 1 ∷ 2 ∷ [])
    ∷ moving_M (at_0 (job 30000 5 ∷ [])) (1 ∷ 1 ∷ 2 ∷ [])
    ∷ moving_refused M (at_0 (job 30001 5 ∷ [])) 7 0
    -- "promises not rising": equal, falling, rising
    ∷ moving_refused M (at_0 (job 1 5 ∷ job 1 5 ∷ [])) 7 0
    ∷ moving_refused M (at_0 (job 1 6 ∷ job 1 5 ∷ [])) 7 0
    ∷ moving_M (at_0 (job 1 5 ∷ job 1 6 ∷ [])) (1 ∷ 1 ∷ 2 ∷ [])
    -- "or above H"
    ∷ moving_M (at_0 (job 1 end ∷ [])) (1 ∷ 1 ∷ 2 ∷ [])
    ∷ moving_refused M (at_0 (job 1 past_end ∷ [])) 7 0
    -- "A + I above the offset": of the window, and not cut to sixteen bits
    ∷ moving_M (state 3 (done ∷ left 2 ∷ []) [] 1 2) (0 ∷ 1 ∷ 2 ∷ [])
    ∷ moving_refused M (state 3 (done ∷ left 2 ∷ []) [] 2 2) 7 0
    ∷ moving_refused M (state 3 (done ∷ left 2 ∷ []) [] 1 3) 7 0
    ∷ moving_refused M (state 3 (done ∷ left 2 ∷ []) [] 65535 1) 7 0
    ∷ moving_M (state 10 (left 2 ∷ left 2 ∷ []) [] 0 0) (1 ∷ 1 ∷ 2 ∷ [])
    ∷ moving_refused M (state 10 (left 2 ∷ left 2 ∷ []) [] 1 0) 7 0
    ∷ moving_refused M (state 10 (left 2 ∷ left 2 ∷ []) [] 0 1) 7 0
    -- "unused place not clear": the third and the last request; a job's work and its promise, the first, a later and the last place
    ∷ moving_refused M (state 0 (left 2 ∷ left 2 ∷ left 1 ∷ []) [] 0 0) 7 0
    ∷ moving_refused M (state 0 (left 2 ∷ left 2 ∷ (replicate 13 done ++ (left 1 ∷ []))) [] 0 0) 7 0
    ∷ moving_refused M (state_from 0 (left 2 ∷ left 2 ∷ []) (job 1 0 ∷ []) 0 0 0) 7 0
    ∷ moving_refused M (state_from 0 (left 2 ∷ left 2 ∷ []) (job 0 1 ∷ []) 0 0 0) 7 0
    ∷ moving_refused M (state_from 0 (left 2 ∷ left 2 ∷ []) (job 1 1 ∷ job 1 4 ∷ []) 1 0 0) 7 0
    ∷ moving_refused M (state_from 0 (left 2 ∷ left 2 ∷ []) (replicate 7 (job 0 0) ++ (job 0 1 ∷ [])) 0 0 0) 7 0
    -- 8 "unfinished work has its deadline ... at or before now": task 1 at 3, task 2 at 8
    ∷ moving_M (at_2 [] 0 0) (0 ∷ 1 ∷ 2 ∷ [])
    ∷ moving_refused M (state 3 (left 1 ∷ left 2 ∷ []) [] 0 0) 8 0
    ∷ moving_refused M (state 4 (left 1 ∷ left 2 ∷ []) [] 0 0) 8 0
    ∷ moving_M (state 7 (done ∷ left 1 ∷ []) [] 0 0) (0 ∷ 0 ∷ 2 ∷ [])
    ∷ moving_refused M (state 8 (done ∷ left 1 ∷ []) [] 0 0) 8 0
    -- "or promise": the least promise that is well shaped is 0
    ∷ moving_M (state 3 (done ∷ left 2 ∷ []) (job 1 4 ∷ []) 0 0) (0 ∷ 1 ∷ 2 ∷ [])
    ∷ moving_refused M (state 3 (done ∷ left 2 ∷ []) (job 1 3 ∷ []) 0 0) 8 0
    ∷ moving_refused M (state 3 (done ∷ left 2 ∷ []) (job 1 2 ∷ job 1 4 ∷ []) 0 0) 8 0
    ∷ moving_refused M (at_0 (job 1 0 ∷ [])) 8 0
    -- 5 of the moving vectors: K, D, Y, and none
    ∷ moving_lent M (at_0 []) (7 ∷ 7 ∷ []) lent lent (5 ∷ 0 ∷ 0 ∷ []) (7 ∷ 7 ∷ []) lent lent
    ∷ moving_lent M (at_0 []) lent (7 ∷ 7 ∷ []) lent (5 ∷ 0 ∷ 0 ∷ []) lent (7 ∷ 7 ∷ []) lent
    ∷ moving_lent M (at_0 []) lent lent (7 ∷ 7 ∷ []) (5 ∷ 0 ∷ 0 ∷ []) lent lent (7 ∷ 7 ∷ [])
    ∷ moving_lent M (at_2 [] 0 0) (replicate 3 7) (replicate 3 8) (replicate 3 9) (0 ∷ 0 ∷ 3 ∷ [])
    (0 ∷ 3 ∷ 8 ∷ []) (1 ∷ 1 ∷ 2 ∷ []) (0 ∷ 1 ∷ 2 ∷ [])
    -- "In this order": 1 to 8, where the next is given too
    ∷ moving_refused many_broken misshapen 1 0
    ∷ moving_refused broken_long misshapen 2 1
    ∷ moving_refused long_crowded misshapen 3 0
    ∷ moving_refused crowded misshapen 4 0
    ∷ moving_lent over misshapen lent lent (7 ∷ 7 ∷ []) (5 ∷ 0 ∷ 0 ∷ []) lent lent (7 ∷ 7 ∷ [])
    ∷ moving_refused over misshapen 6 3
    ∷ moving_refused M (state 3 (left 1 ∷ left 2 ∷ []) [] 2 2) 7 0
    ∷ []

-- ---- "Admission: 1 to 14"
abbrev pub of_admissions : List Asked
of_admissions =
    -- "Admission gives the promise and the state with the job last": M at 2 with one idle slot gone by; and behind a job
    admission_M (at_2 [] 0 1) 1 NoLatest (0 ∷ 0 ∷ 4 ∷ []) (at_2 (job 1 4 ∷ []) 0 1) (0 ∷ 1 ∷ 2 ∷ [])
    ∷ admission_M (at_0 (job 1 1 ∷ [])) 3 NoLatest (0 ∷ 0 ∷ 10 ∷ []) (at_0 (job 1 1 ∷ job 3 10 ∷ [])) (1 ∷ 1 ∷ 2 ∷ [])
    -- 9 "unfinished and later periodic work due by some t ... exceeds t − now": 2 by 3 at 2; 1 by 3 is good (above)
    ∷ refused_M (state 2 (left 2 ∷ left 2 ∷ []) [] 0 1) 1 NoLatest 9 (0 ∷ 1 ∷ 2 ∷ [])
    -- "to the window's end": (2,4,4) at 3, with 2 left, and with 1
    ∷ admission_lent (of 2 4 4 ∷ []) (state 3 (left 2 ∷ []) [] 0 2) 1 NoLatest lent lent lent (9 ∷ 0 ∷ 0 ∷ []) (state 3 (left 2 ∷ []) [] 0 2)
    (0 ∷ 4 ∷ 7 ∷ 7 ∷ 7 ∷ []) (2 ∷ 0 ∷ 7 ∷ 7 ∷ 7 ∷ []) (0 ∷ 0 ∷ 7 ∷ 7 ∷ 7 ∷ [])
    ∷ admission (of 2 4 4 ∷ []) (state 3 (left 1 ∷ []) [] 0 2) 1 NoLatest (0 ∷ 0 ∷ 5 ∷ [])
    -- "and later": (1,2,2), (2,4,4) at 1, 4 units by 4 and 3 units; F is 0
    ∷ admission (of 1 2 2 ∷ of 2 4 4 ∷ []) (state 1 (left 1 ∷ left 2 ∷ []) [] 0 0) 1 NoLatest (9 ∷ 0 ∷ 0 ∷ [])
    ∷ admission (of 1 2 2 ∷ of 2 4 4 ∷ []) (state 1 (done ∷ left 2 ∷ []) [] 0 0) 1 NoLatest (12 ∷ 0 ∷ 0 ∷ [])
    -- 9 "or F − A − I differs from the sum of Y": F is 4 and the sum 3
    ∷ refused_M (at_2 [] 0 0) 1 NoLatest 9 (0 ∷ 1 ∷ 2 ∷ [])
    ∷ refused_M (at_2 [] 0 2) 1 NoLatest 9 (0 ∷ 1 ∷ 2 ∷ [])
    ∷ refused_M (at_2 [] 1 1) 1 NoLatest 9 (0 ∷ 1 ∷ 2 ∷ [])
    ∷ admission_M (at_2 [] 1 0) 1 NoLatest (0 ∷ 0 ∷ 4 ∷ []) (at_2 (job 1 4 ∷ []) 1 0) (0 ∷ 1 ∷ 2 ∷ [])
    -- a request that is done at its own release leaves 6 idle slots of 4; and a difference below 0 is not the sum 0
    ∷ refused_M (state 0 (done ∷ left 2 ∷ []) [] 0 0) 1 NoLatest 9 (3 ∷ 1 ∷ 2 ∷ [])
    ∷ admission (of 2 4 4 ∷ []) (state 3 (left 1 ∷ []) [] 1 2) 1 NoLatest (9 ∷ 0 ∷ 0 ∷ [])
    -- 9 "or a promise is not the least t for its job and those before it": too late, too early, the least; so for a second job
    ∷ refused_M (at_0 (job 1 2 ∷ [])) 1 NoLatest 9 (1 ∷ 1 ∷ 2 ∷ [])
    ∷ refused_M (at_0 (job 2 3 ∷ [])) 1 NoLatest 9 (1 ∷ 1 ∷ 2 ∷ [])
    ∷ admission_M (at_0 (job 2 4 ∷ [])) 1 NoLatest (0 ∷ 0 ∷ 9 ∷ []) (at_0 (job 2 4 ∷ job 1 9 ∷ [])) (1 ∷ 1 ∷ 2 ∷ [])
    ∷ refused_M (at_0 (job 1 1 ∷ job 1 5 ∷ [])) 1 NoLatest 9 (1 ∷ 1 ∷ 2 ∷ [])
    ∷ admission_M (at_0 (job 1 1 ∷ job 1 4 ∷ [])) 1 NoLatest (0 ∷ 0 ∷ 9 ∷ []) (at_0 (job 1 1 ∷ job 1 4 ∷ job 1 9 ∷ [])) (1 ∷ 1 ∷ 2 ∷ [])
    -- where F is 0 no promise is the least: one inside the window, one at its end, one later
    ∷ admission tight (state 0 (left 1 ∷ left 1 ∷ []) (job 1 1 ∷ []) 0 0) 1 NoLatest (9 ∷ 0 ∷ 0 ∷ [])
    ∷ admission tight (state 0 (left 1 ∷ left 1 ∷ []) (job 1 2 ∷ []) 0 0) 1 NoLatest (9 ∷ 0 ∷ 0 ∷ [])
    ∷ admission tight (state 0 (left 1 ∷ left 1 ∷ []) (job 1 5 ∷ []) 0 0) 1 NoLatest (9 ∷ 0 ∷ 0 ∷ [])
    -- 10 "new work 0 or above 30,000"
    ∷ refused_M (at_0 []) 0 NoLatest 10 (1 ∷ 1 ∷ 2 ∷ [])
    ∷ admission_M (at_0 []) 1 NoLatest (0 ∷ 0 ∷ 1 ∷ []) (at_0 (job 1 1 ∷ [])) (1 ∷ 1 ∷ 2 ∷ [])
    ∷ admission_M (at_0 []) 30000 NoLatest (0 ∷ 0 ∷ 75000 ∷ []) (at_0 (job 30000 75000 ∷ [])) (1 ∷ 1 ∷ 2 ∷ [])
    ∷ refused_M (at_0 []) 30001 NoLatest 10 (1 ∷ 1 ∷ 2 ∷ [])
    -- 11 "eight jobs wait": seven, and eight
    ∷ admission_M (at_0 seven_jobs) 1 NoLatest (0 ∷ 0 ∷ 20 ∷ []) (at_0 (seven_jobs ++ (job 1 20 ∷ []))) (1 ∷ 1 ∷ 2 ∷ [])
    ∷ refused_M (at_0 (seven_jobs ++ (job 1 20 ∷ []))) 1 NoLatest 11 (1 ∷ 1 ∷ 2 ∷ [])
    -- 12 "F is 0"; F is 1
    ∷ admission_lent tight (state 0 (left 1 ∷ left 1 ∷ []) [] 0 0) 1 NoLatest lent lent lent (12 ∷ 0 ∷ 0 ∷ []) (state 0 (left 1 ∷ left 1 ∷ []) [] 0 0)
    (0 ∷ 1 ∷ 2 ∷ 7 ∷ 7 ∷ []) (0 ∷ 0 ∷ 0 ∷ 7 ∷ 7 ∷ []) (0 ∷ 0 ∷ 0 ∷ 7 ∷ 7 ∷ [])
    ∷ admission (of 2 2 4 ∷ of 1 3 4 ∷ []) (state 0 (left 2 ∷ left 1 ∷ []) [] 0 0) 1 NoLatest (0 ∷ 0 ∷ 4 ∷ [])
    -- 13 "promise above H": at H, and at H + 3
    ∷ admission_M (near_end []) 1 NoLatest (0 ∷ 0 ∷ end ∷ []) (near_end (job 1 end ∷ [])) (0 ∷ 1 ∷ 2 ∷ [])
    ∷ refused_M (near_end []) 2 NoLatest 13 (0 ∷ 1 ∷ 2 ∷ [])
    -- 14 "promise above the latest finish": work 3 gets 9; a latest finish at now is refused no earlier
    ∷ admission_M (at_0 []) 3 (by 9) (0 ∷ 0 ∷ 9 ∷ []) (at_0 (job 3 9 ∷ [])) (1 ∷ 1 ∷ 2 ∷ [])
    ∷ refused_M (at_0 []) 3 (by 8) 14 (1 ∷ 1 ∷ 2 ∷ [])
    ∷ refused_M (at_0 []) 3 (by 0) 14 (1 ∷ 1 ∷ 2 ∷ [])
    -- 5 of an admission: K, D, Y, and none
    ∷ admission_lent M (at_0 []) 1 NoLatest (7 ∷ 7 ∷ []) lent lent (5 ∷ 0 ∷ 0 ∷ []) (at_0 []) (7 ∷ 7 ∷ []) lent lent
    ∷ admission_lent M (at_0 []) 1 NoLatest lent (7 ∷ 7 ∷ []) lent (5 ∷ 0 ∷ 0 ∷ []) (at_0 []) lent (7 ∷ 7 ∷ []) lent
    ∷ admission_lent M (at_0 []) 1 NoLatest lent lent (7 ∷ 7 ∷ []) (5 ∷ 0 ∷ 0 ∷ []) (at_0 []) lent lent (7 ∷ 7 ∷ [])
    ∷ admission_lent M (at_2 [] 0 1) 1 NoLatest (replicate 3 7) (replicate 3 8) (replicate 3 9) (0 ∷ 0 ∷ 4 ∷ []) (at_2 (job 1 4 ∷ []) 0 1)
    (0 ∷ 3 ∷ 8 ∷ []) (1 ∷ 1 ∷ 2 ∷ []) (0 ∷ 1 ∷ 2 ∷ [])
    -- "In this order": 1 to 8, where the next is given too; no vector is touched, by 8 neither
    ∷ admission_refused many_broken misshapen 0 NoLatest 1 0
    ∷ admission_refused broken_long misshapen 0 NoLatest 2 1
    ∷ admission_refused long_crowded misshapen 0 NoLatest 3 0
    ∷ admission_refused crowded misshapen 0 NoLatest 4 0
    ∷ admission_lent over misshapen 0 NoLatest (7 ∷ 7 ∷ []) lent lent (5 ∷ 0 ∷ 0 ∷ []) misshapen (7 ∷ 7 ∷ []) lent lent
    ∷ admission_refused over misshapen 0 NoLatest 6 3
    ∷ admission_refused M (state 3 (left 1 ∷ left 2 ∷ []) [] 2 2) 0 NoLatest 7 0
    ∷ admission_refused M (state 3 (left 1 ∷ left 2 ∷ []) [] 0 0) 0 NoLatest 8 0
    -- 9, by each of its rules, and 10; 10 and 11; 10 and 12
    ∷ refused_M (state 2 (left 2 ∷ left 2 ∷ []) [] 0 1) 0 NoLatest 9 (0 ∷ 1 ∷ 2 ∷ [])
    ∷ refused_M (at_2 [] 0 0) 0 NoLatest 9 (0 ∷ 1 ∷ 2 ∷ [])
    ∷ refused_M (at_0 (job 1 2 ∷ [])) 0 NoLatest 9 (1 ∷ 1 ∷ 2 ∷ [])
    ∷ refused_M (at_0 (seven_jobs ++ (job 1 20 ∷ []))) 0 NoLatest 10 (1 ∷ 1 ∷ 2 ∷ [])
    ∷ admission tight (state 0 (left 1 ∷ left 1 ∷ []) [] 0 0) 0 NoLatest (10 ∷ 0 ∷ 0 ∷ [])
    -- 11 and 12 are never given both: where F is 0 a job that waits is 9. 11 and 13: ten idle slots to H, and ten units wait from H − 26 on
    ∷ refused_M (state 1099511627750 (left 2 ∷ left 2 ∷ [])
    (job 1 1099511627751
    ∷ job 1 1099511627754
    ∷ job 1 1099511627759
    ∷ job 1 1099511627760
    ∷ job 1 1099511627761
    ∷ job 1 1099511627764
    ∷ job 1 1099511627769
    ∷ job 3 1099511627774
    ∷ [])
    0 0) 1 NoLatest 11 (1 ∷ 1 ∷ 2 ∷ [])
    -- 12 where any promise would be above H, and above the latest finish; 13 and 14
    ∷ admission tight (state end (left 1 ∷ left 1 ∷ []) [] 0 0) 1 NoLatest (12 ∷ 0 ∷ 0 ∷ [])
    ∷ admission tight (state 0 (left 1 ∷ left 1 ∷ []) [] 0 0) 1 (by 0) (12 ∷ 0 ∷ 0 ∷ [])
    ∷ refused_M (near_end []) 2 (by end) 13 (0 ∷ 1 ∷ 2 ∷ [])
    ∷ []

-- ---- "Slot: 1, 2, 3, 7, 15, 8", and "One slot"
abbrev pub of_slots : List Asked
of_slots =
    -- 8 "at or before now": the slot would finish the work
    slot_refused M (state 3 (left 1 ∷ left 2 ∷ []) [] 0 0) 8 0
    ∷ slot_refused M (state 3 (done ∷ left 2 ∷ []) (job 1 3 ∷ []) 0 0) 8 0
    -- "for a slot, also if it would have at the next now": task 1 at 2 with 2 left and with 1; a job of promise 3 so
    ∷ slot_refused M (state 2 (left 2 ∷ left 2 ∷ []) [] 0 0) 8 0
    ∷ slot M (at_2 [] 0 0) (0 ∷ 0 ∷ 2 ∷ 1 ∷ []) (state 3 (done ∷ left 2 ∷ []) [] 0 0)
    ∷ slot_refused M (state 2 (done ∷ left 2 ∷ []) (job 2 3 ∷ []) 0 0) 8 0
    ∷ slot M (state 2 (done ∷ left 2 ∷ []) (job 1 3 ∷ []) 0 0) (0 ∷ 0 ∷ 2 ∷ 17 ∷ 3 ∷ []) (state 3 (done ∷ left 2 ∷ []) [] 1 0)
    -- both at 3: one of them is late
    ∷ slot_refused M (at_2 (job 1 3 ∷ []) 0 0) 8 0
    -- "before releases enter": (2,2,2) at 1
    ∷ slot_refused (of 2 2 2 ∷ []) (state 1 (left 2 ∷ []) [] 0 0) 8 0
    ∷ slot (of 2 2 2 ∷ []) (state 1 (left 1 ∷ []) [] 0 0) (0 ∷ 0 ∷ 1 ∷ 1 ∷ []) (state 2 (left 2 ∷ []) [] 0 0)
    -- 15 "slot asked at H": the slot before H runs
    ∷ slot M (state before_end (left 2 ∷ done ∷ []) [] 0 0) (0 ∷ 0 ∷ 1 ∷ 1 ∷ []) (state end (left 1 ∷ done ∷ []) [] 0 0)
    ∷ slot_refused M (state end (left 1 ∷ done ∷ []) [] 0 0) 15 0
    -- 3: W 30,001 and 30,000
    ∷ slot_refused long (state 0 (left 1 ∷ left 1 ∷ []) [] 0 0) 3 0
    ∷ slot longest (state 0 (left 1 ∷ left 1 ∷ []) [] 0 0) (0 ∷ 0 ∷ 2 ∷ 1 ∷ []) (state 1 (done ∷ left 1 ∷ []) [] 0 0)
    -- the order, where the next is given too
    ∷ slot_refused many_broken misshapen 1 0
    ∷ slot_refused broken_long misshapen 2 1
    ∷ slot_refused long misshapen 3 0
    ∷ slot_refused M (state end (left 3 ∷ done ∷ []) [] 0 0) 7 0
    ∷ slot_refused M (state past_end (left 1 ∷ done ∷ []) [] 0 0) 7 0
    ∷ slot_refused M (state end (left 1 ∷ done ∷ []) (job 1 end ∷ []) 0 0) 15 0
    -- 4 to 6 are not asked: a table of 1,025 places, and one that is refused 6 and misses a deadline in its third slot
    ∷ slot crowded (state 0 (left 1 ∷ left 1 ∷ []) [] 0 0) (0 ∷ 0 ∷ 3 ∷ 1 ∷ []) (state 1 (left 1 ∷ left 1 ∷ []) [] 0 0)
    ∷ run over (state_at over []) ((0 ∷ 3 ∷ 1 ∷ []) ∷ (0 ∷ 2 ∷ 1 ∷ []) ∷ (8 ∷ 0 ∷ 0 ∷ []) ∷ [])
    -- "the earliest deadline runs; on a tie the job, then the lowest task number"
    ∷ slot M (at_0 (job 2 3 ∷ [])) (0 ∷ 0 ∷ 3 ∷ 17 ∷ 3 ∷ []) (state 1 (left 2 ∷ left 2 ∷ []) (job 1 3 ∷ []) 1 0)
    ∷ slot M (at_0 (job 2 4 ∷ [])) (0 ∷ 0 ∷ 3 ∷ 1 ∷ []) (state 1 (left 1 ∷ left 2 ∷ []) (job 2 4 ∷ []) 0 0)
    ∷ slot (of 1 4 4 ∷ of 1 4 4 ∷ []) (state 0 (left 1 ∷ left 1 ∷ []) [] 0 0) (0 ∷ 0 ∷ 2 ∷ 1 ∷ []) (state 1 (done ∷ left 1 ∷ []) [] 0 0)
    ∷ slot (of 1 4 4 ∷ of 1 3 4 ∷ []) (state 0 (left 1 ∷ left 1 ∷ []) [] 0 0) (0 ∷ 0 ∷ 1 ∷ 2 ∷ []) (state 1 (left 1 ∷ done ∷ []) [] 0 0)
    -- "bit j−1 of a sixteen-bit word is set exactly when task j has work left": all but task 1; none, after task 16
    ∷ slot (replicate 16 (of 1 17 17)) (state 0 (replicate 16 (left 1)) [] 0 0) (0 ∷ 0 ∷ 65534 ∷ 1 ∷ [])
    (state 1 (done ∷ replicate 15 (left 1)) [] 0 0)
    ∷ slot (replicate 16 (of 1 17 17)) (state 15 (replicate 15 done ++ (left 1 ∷ [])) [] 0 0) (0 ∷ 0 ∷ 0 ∷ 16 ∷ []) (state 16 [] [] 0 0)
    -- "A finished job leaves and the rest move up."
    ∷ slot M (at_0 (job 1 1 ∷ job 2 9 ∷ [])) (0 ∷ 0 ∷ 3 ∷ 17 ∷ 1 ∷ []) (state 1 (left 2 ∷ left 2 ∷ []) (job 2 9 ∷ []) 1 0)
    -- "releases enter, and at a window's start A and I become 0": an idle slot at 4, and at 9
    ∷ slot M (state 4 (done ∷ done ∷ []) [] 0 0) (0 ∷ 0 ∷ 1 ∷ 0 ∷ []) (state 5 (left 2 ∷ done ∷ []) [] 0 1)
    ∷ slot M (state 9 (done ∷ done ∷ []) [] 1 2) (0 ∷ 0 ∷ 3 ∷ 0 ∷ []) (state 10 (left 2 ∷ left 2 ∷ []) [] 0 0)
    ∷ []

-- ---- "Tagged fields"

-- a task, an arrival without and with a latest finish, and the slots to run, of numbers below 256
abbrev pub a_task : (c r p : ℕ) → List ℕ
a_task c r p = 1 ∷ 6 ∷ 0 ∷ c ∷ 0 ∷ r ∷ 0 ∷ p ∷ 0 ∷ []

abbrev pub arrives : (slot work : ℕ) → List ℕ
arrives s w = 2 ∷ 6 ∷ 0 ∷ s ∷ 0 ∷ 0 ∷ 0 ∷ w ∷ 0 ∷ []

abbrev pub arrives_by : (slot work latest : ℕ) → List ℕ
arrives_by s w l = 2 ∷ 10 ∷ 0 ∷ s ∷ 0 ∷ 0 ∷ 0 ∷ w ∷ 0 ∷ l ∷ 0 ∷ 0 ∷ 0 ∷ []

abbrev pub runs-for : ℕ → List ℕ
runs-for n = 3 ∷ 4 ∷ 0 ∷ n ∷ 0 ∷ 0 ∷ 0 ∷ []

-- 100,000 and 100,001 slots
abbrev pub longest_run : List ℕ
longest_run = 3 ∷ 4 ∷ 0 ∷ 160 ∷ 134 ∷ 1 ∷ 0 ∷ []

abbrev pub too_long_run : List ℕ
too_long_run = 3 ∷ 4 ∷ 0 ∷ 161 ∷ 134 ∷ 1 ∷ 0 ∷ []

abbrev pub of_M : List ℕ
of_M = a_task 2 3 5 ++ a_task 2 8 10

-- four tasks, 36 bytes, and sixteen, 144 bytes
abbrev pub four : List ℕ
four = a_task 1 17 17 ++ a_task 1 17 17 ++ a_task 1 17 17 ++ a_task 1 17 17

abbrev pub sixteen : List ℕ
sixteen = four ++ four ++ four ++ four

abbrev pub bad_fields : (bytes : List ℕ) → (number place : ℕ) → Asked
bad_fields bytes n p = fields bytes (n ∷ p ∷ []) []

abbrev pub of_fields : List Asked
of_fields =
    -- "low byte first": every byte of a number counts; "C, R, P"; "slot (4), work (2), latest finish (4, absent is none)"; "slots not falling"
    fields
    (1 ∷ 6 ∷ 0 ∷ 2 ∷ 1 ∷ 4 ∷ 3 ∷ 6 ∷ 5
    ∷ 2 ∷ 6 ∷ 0 ∷ 1 ∷ 2 ∷ 3 ∷ 4 ∷ 5 ∷ 6
    ∷ 2 ∷ 10 ∷ 0 ∷ 1 ∷ 2 ∷ 3 ∷ 4 ∷ 7 ∷ 8 ∷ 9 ∷ 10 ∷ 11 ∷ 12
    ∷ longest_run)
    (0 ∷ 0 ∷ [])
    ((1 ∷ 258 ∷ 772 ∷ 1286 ∷ [])
    ∷ (2 ∷ 67305985 ∷ 1541 ∷ [])
    ∷ (2 ∷ 67305985 ∷ 2055 ∷ 202050057 ∷ [])
    ∷ (3 ∷ 100000 ∷ [])
    ∷ [])
    -- in the order of the file
    ∷ fields (of_M ++ arrives 0 1 ++ arrives_by 1 2 9 ++ runs-for 3) (0 ∷ 0 ∷ [])
    ((1 ∷ 2 ∷ 3 ∷ 5 ∷ []) ∷ (1 ∷ 2 ∷ 8 ∷ 10 ∷ []) ∷ (2 ∷ 0 ∷ 1 ∷ []) ∷ (2 ∷ 1 ∷ 2 ∷ 9 ∷ []) ∷ (3 ∷ 3 ∷ []) ∷ [])
    -- "20 input over 4,096 bytes [0]": 4,096 bytes come as far as their first field
    ∷ bad_fields (replicate 4097 0) 20 0
    ∷ bad_fields (replicate 4096 0) 17 0
    -- "16 one or two bytes left", also of an unknown tag
    ∷ bad_fields (1 ∷ []) 16 0
    ∷ bad_fields (9 ∷ 9 ∷ []) 16 0
    ∷ bad_fields (a_task 2 3 5 ++ (3 ∷ 4 ∷ [])) 16 9
    -- "17 unknown tag", also of a wrong length: 0 and 4
    ∷ bad_fields (9 ∷ 9 ∷ 9 ∷ []) 17 0
    ∷ bad_fields (a_task 2 3 5 ++ (0 ∷ 6 ∷ 0 ∷ [])) 17 9
    ∷ bad_fields (a_task 2 3 5 ++ (4 ∷ 5 ∷ 0 ∷ [])) 17 9
    -- "18 wrong length", also of a body that is cut: 1 has 6, 2 has 6 or 10, 3 has 4; its high byte counts, and is the second
    ∷ bad_fields (1 ∷ 5 ∷ 0 ∷ []) 18 0
    ∷ bad_fields (1 ∷ 7 ∷ 0 ∷ []) 18 0
    ∷ bad_fields (1 ∷ 10 ∷ 0 ∷ []) 18 0
    ∷ bad_fields (1 ∷ 6 ∷ 1 ∷ []) 18 0
    ∷ bad_fields (1 ∷ 0 ∷ 6 ∷ []) 18 0
    ∷ bad_fields (a_task 2 3 5 ++ (2 ∷ 5 ∷ 0 ∷ [])) 18 9
    ∷ bad_fields (a_task 2 3 5 ++ (2 ∷ 8 ∷ 0 ∷ [])) 18 9
    ∷ bad_fields (a_task 2 3 5 ++ (2 ∷ 11 ∷ 0 ∷ [])) 18 9
    ∷ bad_fields (a_task 2 3 5 ++ (3 ∷ 3 ∷ 0 ∷ [])) 18 9
    ∷ bad_fields (a_task 2 3 5 ++ (3 ∷ 6 ∷ 0 ∷ [])) 18 9
    -- "16 body cut", by one byte; also of an arrival before any task, and of a run that is too long
    ∷ bad_fields (1 ∷ 6 ∷ 0 ∷ 2 ∷ 0 ∷ 3 ∷ 0 ∷ 5 ∷ []) 16 0
    ∷ bad_fields (a_task 2 3 5 ++ (2 ∷ 10 ∷ 0 ∷ 1 ∷ 0 ∷ 0 ∷ 0 ∷ 2 ∷ 0 ∷ 9 ∷ 0 ∷ 0 ∷ [])) 16 9
    ∷ bad_fields (2 ∷ 6 ∷ 0 ∷ 1 ∷ []) 16 0
    ∷ bad_fields (a_task 2 3 5 ++ (3 ∷ 4 ∷ 0 ∷ 255 ∷ 255 ∷ 255 ∷ [])) 16 9
    -- "19 wrong order": a task after an arrival, an arrival before the one before it, two tags 3
    ∷ bad_fields (a_task 2 3 5 ++ arrives 1 1 ++ a_task 2 8 10 ++ runs-for 1) 19 18
    ∷ bad_fields (a_task 2 3 5 ++ arrives 2 1 ++ arrives 1 1 ++ runs-for 1) 19 18
    ∷ bad_fields (a_task 2 3 5 ++ runs-for 1 ++ runs-for 1) 19 16
    -- "an arrival or tag 3 before any task", also of a run that is too long
    ∷ bad_fields (arrives 0 1 ++ a_task 2 3 5 ++ runs-for 1) 19 0
    ∷ bad_fields (runs-for 1) 19 0
    ∷ bad_fields too_long_run 19 0
    -- "A byte after tag 3 is 19 before anything else is asked of it"
    ∷ bad_fields (a_task 2 3 5 ++ runs-for 1 ++ (9 ∷ [])) 19 16
    ∷ bad_fields (a_task 2 3 5 ++ runs-for 1 ++ (9 ∷ 9 ∷ 9 ∷ [])) 19 16
    -- "or no byte left and no tag 3 yet [input length]"
    ∷ bad_fields [] 19 0
    ∷ bad_fields (of_M ++ arrives 0 1) 19 27
    -- "1 seventeenth task": sixteen are good; after an arrival it is 19
    ∷ fields (sixteen ++ runs-for 1) (0 ∷ 0 ∷ []) (replicate 16 (1 ∷ 1 ∷ 17 ∷ 17 ∷ []) ++ ((3 ∷ 1 ∷ []) ∷ []))
    ∷ bad_fields (sixteen ++ a_task 1 17 17 ++ runs-for 1) 1 144
    ∷ bad_fields (sixteen ++ arrives 0 1 ++ a_task 1 17 17 ++ runs-for 1) 19 153
    -- "21 run too long", whatever follows. No field is both 1 and 21: the one is a task, the other is not
    ∷ fields (a_task 2 3 5 ++ longest_run) (0 ∷ 0 ∷ []) ((1 ∷ 2 ∷ 3 ∷ 5 ∷ []) ∷ (3 ∷ 100000 ∷ []) ∷ [])
    ∷ bad_fields (a_task 2 3 5 ++ too_long_run) 21 9
    ∷ bad_fields (a_task 2 3 5 ++ too_long_run ++ (9 ∷ [])) 21 9
    -- "it gets the number, the place and W back, from the field checks and then 1 to 4 and 6 of the table"
    ∷ boot input (0 ∷ 0 ∷ 10 ∷ [])
    ∷ boot (a_task 0 3 5) (19 ∷ 9 ∷ 0 ∷ [])
    ∷ boot (sixteen ++ a_task 1 17 17 ++ runs-for 1) (1 ∷ 144 ∷ 0 ∷ [])
    ∷ boot (a_task 2 3 5 ++ a_task 2 8 7 ++ runs-for 1) (2 ∷ 2 ∷ 0 ∷ [])
    ∷ boot (a_task 2 2 4 ++ a_task 2 3 4 ++ runs-for 1) (6 ∷ 3 ∷ 0 ∷ [])
    -- "Periods 3,000 and 10,000: W 30,000, good; 9,999 and 10,000: refused 3", and where C is 0, 2 before 3
    ∷ boot (1 ∷ 6 ∷ 0 ∷ 1 ∷ 0 ∷ 1 ∷ 0 ∷ 184 ∷ 11 ∷ 1 ∷ 6 ∷ 0 ∷ 1 ∷ 0 ∷ 2 ∷ 0 ∷ 16 ∷ 39 ∷ runs-for 1) (0 ∷ 0 ∷ 30000 ∷ [])
    ∷ boot (1 ∷ 6 ∷ 0 ∷ 1 ∷ 0 ∷ 1 ∷ 0 ∷ 15 ∷ 39 ∷ 1 ∷ 6 ∷ 0 ∷ 1 ∷ 0 ∷ 2 ∷ 0 ∷ 16 ∷ 39 ∷ runs-for 1) (3 ∷ 0 ∷ 0 ∷ [])
    ∷ boot (1 ∷ 6 ∷ 0 ∷ 1 ∷ 0 ∷ 1 ∷ 0 ∷ 15 ∷ 39 ∷ 1 ∷ 6 ∷ 0 ∷ 0 ∷ 0 ∷ 2 ∷ 0 ∷ 16 ∷ 39 ∷ runs-for 1) (2 ∷ 2 ∷ 0 ∷ [])
    -- (1,1,1), (1,1,251), (1,1,241) has W 60,491 and as many places: 3 before 4
    ∷ boot (a_task 1 1 1 ++ a_task 1 1 251 ++ a_task 1 1 241 ++ runs-for 1) (3 ∷ 0 ∷ 0 ∷ [])
    -- "(1,2,2), (1,2046,2046): 1,024 places, accepted; with R 2045, refused 4." With (1,1,1), 4 before 6
    ∷ boot (a_task 1 2 2 ++ (1 ∷ 6 ∷ 0 ∷ 1 ∷ 0 ∷ 254 ∷ 7 ∷ 254 ∷ 7 ∷ runs-for 1)) (0 ∷ 0 ∷ 2046 ∷ [])
    ∷ boot (a_task 1 2 2 ++ (1 ∷ 6 ∷ 0 ∷ 1 ∷ 0 ∷ 253 ∷ 7 ∷ 254 ∷ 7 ∷ runs-for 1)) (4 ∷ 0 ∷ 0 ∷ [])
    ∷ boot (a_task 1 1 1 ++ (1 ∷ 6 ∷ 0 ∷ 1 ∷ 0 ∷ 0 ∷ 4 ∷ 0 ∷ 4 ∷ runs-for 1)) (4 ∷ 0 ∷ 0 ∷ [])
    ∷ []

-- ---- "The run program"
abbrev pub of_listings : List Asked
of_listings =
    -- "A bad file or table: `x number place` after the first line."
    listed [] (text "slot who\nx 19 0\n")
    ∷ listed (of_M ++ arrives 0 1) (text "slot who\nx 19 27\n")
    ∷ listed (a_task 2 2 4 ++ a_task 2 3 4 ++ runs-for 1) (text "slot who\nx 6 3\n")
    -- "Before a slot its arrivals in file order: `a slot work promise`, or `r slot work number`": work 0; a latest finish of 4 and of 3
    ∷ listed (of_M ++ arrives 0 0 ++ runs-for 1) (text "slot who\nr 0 0 10\n0 P1\n")
    ∷ listed (of_M ++ arrives 0 1 ++ arrives_by 0 1 4 ++ runs-for 1) (text "slot who\na 0 1 1\na 0 1 4\n0 S1\n")
    ∷ listed (of_M ++ arrives_by 0 2 3 ++ arrives 0 1 ++ runs-for 1) (text "slot who\nr 0 2 14\na 0 1 1\n0 S1\n")
    -- a number's digits: work 30,000 gets 75,000
    ∷ listed (of_M ++ (2 ∷ 6 ∷ 0 ∷ 0 ∷ 0 ∷ 0 ∷ 0 ∷ 48 ∷ 117 ∷ runs-for 1)) (text "slot who\na 0 30000 75000\n0 P1\n")
    -- "Arrivals at or after the run's end are not shown": at 1 with one slot; and with no slot at all
    ∷ listed (of_M ++ arrives 1 1 ++ runs-for 1) (text "slot who\n0 P1\n")
    ∷ listed (of_M ++ arrives 1 2 ++ runs-for 2) (text "slot who\n0 P1\na 1 2 4\n1 P1\n")
    ∷ listed (of_M ++ arrives 0 1 ++ runs-for 0) (text "slot who\n")
    ∷ []

abbrev pub exampled : List Asked
exampled = of_tables ++ (of_states ++ (of_admissions ++ (of_slots ++ (of_fields ++ of_listings))))

-- THE EXAMPLES
pub examples : all_hold exampled ≡ true
unfolding all_hold
examples = refl

-- how many they are
pub examples_count : length exampled ≡ 237
examples_count = refl
