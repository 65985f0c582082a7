pub mod Bits
pub mod Chain
pub mod Steps
