-- What walks of the calls by hand share, and the steps in which the run is copied.
pub mod Locals
pub mod Passed
pub mod Lending
pub mod Copied
