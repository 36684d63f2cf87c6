-- Which pairs of transitions are in conflict, and which of them are settled.
pub mod Pairs
pub mod Settled
