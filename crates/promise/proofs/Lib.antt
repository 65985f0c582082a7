-- Laws that serve the code of the promise.
pub mod Running
pub mod Formula
