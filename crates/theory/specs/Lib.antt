-- The laws of the paper's definitions that the code's proofs rest on, in the order in which they are proved. The argument that the
-- definitions meet the three demands is built on them in crate demands: Demands.antt there is the file to read first.
-- Counting: deadlines of one task and of a table.
pub mod Counting
pub mod Tables
pub mod WindowLaws
-- The rule does the earliest deadline.
pub mod RuleLaws
-- A vector and its places.
pub mod PlaceLaws
-- Walks over lists, lent vectors, lists of refusals, a table that passes 1 to 3.
pub mod Scan
pub mod Lent
pub mod Verdicts
pub mod Said
pub mod OneVerdict
pub mod OwnNumber
pub mod Ready
pub mod Limits
-- The state's record and its view.
pub mod Padded
pub mod States
pub mod ReadyWord
-- Walks over tasks and deadlines.
pub mod TasksDown
pub mod Most
pub mod Lasts
pub mod DueBy
pub mod Offsets
-- The times of the places, and 9's first rule by places.
pub mod Times
pub mod Overfull
