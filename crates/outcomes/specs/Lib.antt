-- What the contracts of the public calls say: of each call two theorems, named after it (Board.antt).
pub mod Tied
pub mod Parts
pub mod Board
pub mod ByValue
pub mod Bytes
pub mod Lines
pub mod Measured
