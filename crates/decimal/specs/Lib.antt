-- What is written into a lent buffer, and numbers in decimal.
pub mod Written
pub mod Decimal
pub mod Told
