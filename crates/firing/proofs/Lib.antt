-- The laws of the fired set: sums over a set's members, walks over a word's places, and rounds.
pub mod Sums
pub mod Words
pub mod Rounds
pub mod Arcs
pub mod Taken
pub mod Meaning
