-- What the reader's contracts cite: the kinds of fields, the refusals of a field, what is kept of a file, the arrivals on demand.
pub mod Kinds
pub mod Shape
pub mod Seen
pub mod Arrivals
