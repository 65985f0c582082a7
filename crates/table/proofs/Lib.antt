-- What the proofs of this crate share.
pub mod Fill
pub mod Outcome
