-- Laws of numbers with their low byte first, and of the bytes from a place on.
pub mod Numbers
pub mod Rest
