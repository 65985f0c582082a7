-- What is meant: one file a section of document 01, each definition under the sentence that it renders.
-- Nothing here is proved but the numbers of Stars.antt and Examples.antt; the theorems are in the crates theory and demands.
--
-- For a first reader: `f : A → B → C` says that f takes an A and a B and gives a C, and the lines below it say which one.
--   f x y             f of x and y; a line with a pattern, such as f [] or f (suc n), is for arguments of that form; suc n is n + 1
--   pub               other files may use it
--   abbrev            a short form, which stands for its text everywhere
--   unfoldable        a definition that a proof opens by `unfolding`; it means its text all the same
--   cond b x y        x if the test b is true, and y if it is false; pick b m n is the same of numbers
--   leb m n           the test m ≤ n; ltb m n is m < n, and eqb m n is m = n
--   m - n             stops at 0: 3 - 5 is 0
--   m / n, m % n      the quotient, rounded down, and the remainder; m / 0 is 0, and m % 0 is m
--   x ∷ xs, []        the list of x and then xs, and the empty list; xs ++ ys is the one list and then the other
--   record { a = x }  the record whose field a is x; r.a is the field a of r; the number of a Slot or an Offset is its field 0

-- "Time, tasks, state"
pub mod Demand
pub mod Window
pub mod View
-- "The vectors"
pub mod Places
pub mod Vectors
pub mod Idle
-- "One slot"
pub mod Rule
-- "Refusal numbers"
pub mod Refusals
pub mod Refused
pub mod Calls
-- "Tagged fields"
pub mod Fields
-- "The run program"
pub mod Listing
-- demand 3
pub mod Plan
pub mod Reached
-- "Numbers to check", and numbers of our own
pub mod Asked
pub mod Stars
pub mod Examples
