-- Laws that serve the code of refusal 9.
pub mod Over
pub mod Jobs
pub mod Rules
