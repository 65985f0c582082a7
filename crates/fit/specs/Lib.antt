-- What the contracts of refusal 9 cite.
pub mod Ground
pub mod Lefts
