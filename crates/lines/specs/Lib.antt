-- Lines, as the words that are written one after another.
pub mod Words
