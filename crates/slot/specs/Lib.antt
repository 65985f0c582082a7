-- Refusal 8, and the state at the next slot.
pub mod Late
pub mod Next
