-- What the table of a lent run tells of it.
pub mod Readers
