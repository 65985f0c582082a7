-- What the proofs of this crate share.
pub mod Euclid
pub mod Tested
