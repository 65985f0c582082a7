-- What the proofs of this crate share.
pub mod RowLaws
pub mod Over
