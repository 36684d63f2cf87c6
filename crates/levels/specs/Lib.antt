-- What is kept of each place, and the level on which it holds.
pub mod Levels
