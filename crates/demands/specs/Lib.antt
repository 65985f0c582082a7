-- The argument that the paper's definitions meet the buyer's three demands. No code rests on this crate, so a change here proves nothing else
-- again. To read first: Demands.antt, which states the demands and nothing else. The rest is in the order in which it is proved.
pub mod Demands
-- Room, and one slot keeps the promises.
pub mod Room
pub mod Later
pub mod SlotKeeps
-- The vectors are room in another dress.
pub mod Vec
pub mod Slack
pub mod RunningSum
-- The promise is the least time that leaves room.
pub mod Gaps
pub mod Promise
pub mod Tallies
-- What is reached from power-on, and what 9 says.
pub mod SoundViews
pub mod Shape
pub mod Fit
pub mod Nine
-- The vectors, in the paper's words.
pub mod Deadlines
pub mod IdleVectors
-- Plans: none ends before the promise, and the run is one that ends there.
pub mod OneOwner
pub mod PlanBound
pub mod JobUnits
pub mod RunIsPlan
pub mod Running
-- Demand 3 of views, and what else holds of every reached view.
pub mod ThreeTimes
pub mod Always
-- Demand 3 of the chip: a lent run of tasks, within the machine's bounds, along the calls.
pub mod LentRun
pub mod Machine
pub mod Accepted
pub mod JobWork
pub mod Called
-- Demand 1: what every call leaves, accepted or refused.
pub mod Leaves
-- Demand 2: the vectors, the rule, and tallies that are those of the slots run.
pub mod Method
pub mod Counted
-- Where the premises are met, that nothing stronger holds, and the tables that are never idle.
pub mod Played
pub mod Example
pub mod Sharp
pub mod NeverIdle
