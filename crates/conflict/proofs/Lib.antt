-- The laws of the pairs in conflict.
pub mod Takers
pub mod Candidates
pub mod Whole
pub mod Wanted
pub mod Inhibited
pub mod Say
