-- What the contracts of the state's checks ask of the table and of the state.
pub mod Shaped
