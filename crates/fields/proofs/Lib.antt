-- Laws that the functions' proofs cite; OnDemand.antt is for the callers of `arrival_at`.
pub mod Judged
pub mod Kept
pub mod Walk
pub mod OnDemand
