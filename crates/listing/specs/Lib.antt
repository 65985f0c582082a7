-- A run, line by line.
pub mod Run
pub mod Turns
pub mod Part
pub mod Begin
pub mod Whole
pub mod Cut
