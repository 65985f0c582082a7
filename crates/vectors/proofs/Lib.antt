-- Laws that serve the code of the moving vectors.
pub mod Order
pub mod Made
