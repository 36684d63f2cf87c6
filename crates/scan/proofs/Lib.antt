-- The laws of the pass over the records.
pub mod Slots
pub mod Filing
pub mod Entries
pub mod Arcs
pub mod Sound
pub mod Keeping
pub mod Twice
pub mod Passed
