-- The places of a lent vector that a call has not touched.
pub mod Marks
-- The states that the test programs ask about.
pub mod Made
