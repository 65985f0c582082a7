-- Laws that serve the code of admission.
pub mod Chain
pub mod Offers
pub mod Fronts
pub mod Outcome
