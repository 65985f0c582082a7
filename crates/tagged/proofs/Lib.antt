-- What reading a number's bytes into an array comes to.
pub mod Read
