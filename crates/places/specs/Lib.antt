-- What the contracts of this crate cite.
pub mod Stands
pub mod Counted
