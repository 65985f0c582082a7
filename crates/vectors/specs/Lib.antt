-- What the contracts of the moving vectors cite.
pub mod Eight
pub mod Prepared
