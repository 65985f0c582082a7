-- The paper's number and place of each refusal that the code tells apart, and what a judgement says of the paper's verdict.
-- "If an answer is an enum, there is a definition with this paper's number and values for each of its cases."
use Rattle.std.specs.Prelude.{ℕ, ◌≡◌, Result, Ok, Err}
use Rattle.paper.specs.declared.Verdict.{Verdict}
use Rattle.paper.specs.declared.Refusal.{Refusal}
use Rattle.paper.specs.declared.Refusal.TheVariants.{NoOrManyTasks, TaskOutOfLimits, WindowTooLong, TooManyPlaces, VectorTooShort, Overloaded}
use Rattle.paper.specs.declared.Refusal.TheVariants.{Misshapen, Overdue, Unfit, BadWork, EightWait, NeverIdle, PastTheClock, TooLate, ClockAtItsEnd}
use Rattle.paper.specs.declared.Refusal.TheVariants.{Cut, UnknownTag, WrongLength, WrongOrder, InputTooLong, RunTooLong}
use Rattle.paper.specs.Refusals.{passed}

abbrev pub numbered : ℕ → ℕ → Verdict
numbered n p = record { number = n; place = p }

abbrev pub verdict_of : Refusal → Verdict
verdict_of (NoOrManyTasks p) = numbered 1 p
verdict_of (TaskOutOfLimits p) = numbered 2 p
verdict_of WindowTooLong = numbered 3 0
verdict_of TooManyPlaces = numbered 4 0
verdict_of VectorTooShort = numbered 5 0
verdict_of (Overloaded p) = numbered 6 p
verdict_of Misshapen = numbered 7 0
verdict_of Overdue = numbered 8 0
verdict_of Unfit = numbered 9 0
verdict_of BadWork = numbered 10 0
verdict_of EightWait = numbered 11 0
verdict_of NeverIdle = numbered 12 0
verdict_of PastTheClock = numbered 13 0
verdict_of TooLate = numbered 14 0
verdict_of ClockAtItsEnd = numbered 15 0
verdict_of (Cut p) = numbered 16 p
verdict_of (UnknownTag p) = numbered 17 p
verdict_of (WrongLength p) = numbered 18 p
verdict_of (WrongOrder p) = numbered 19 p
verdict_of InputTooLong = numbered 20 0
verdict_of (RunTooLong p) = numbered 21 p

-- a judgement says a verdict: it is a refusal of that number and place, or where nothing is refused a value of which P holds
abbrev pub Says : {A : Type 0} → Verdict → (A → Type 0) → Result A Refusal → Type 0
Says v P (Ok a) = (v ≡ passed) × P a
Says v P (Err r) = v ≡ verdict_of r

-- a judgement that gives nothing but its pass
abbrev pub Judges : Verdict → Result (Unit {0}) Refusal → Type 0
Judges v r = Says v (λ u. Unit {0}) r
