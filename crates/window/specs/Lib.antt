-- What the types of this crate keep, and what refusals 1 to 3 answer.
pub mod Kept
pub mod Judged
