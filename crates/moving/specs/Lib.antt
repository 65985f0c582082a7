-- What the contracts of the moving vector cite.
pub mod Above
pub mod Passed
pub mod Vectors
