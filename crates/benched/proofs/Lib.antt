-- What a turn of each loop does to what is left, and how the three parts of a stand follow one another.
pub mod Steps
