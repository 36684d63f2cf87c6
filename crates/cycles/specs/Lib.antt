-- What is laid out for the cycles of a call, and what they come to.
pub mod Lay
pub mod Cycles
