-- The lines of a vector.
pub mod Numbers
-- Which turns of a run are told.
pub mod Told
