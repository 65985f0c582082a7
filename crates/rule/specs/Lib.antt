-- What the rule's code means in the paper's words.
pub mod Owner
pub mod Unit
