-- The laws of the engine: rows that are enough, what start and run leave, and what the demands say of it.
pub mod Room
pub mod Starts
pub mod Beside
pub mod Runs
pub mod Demands
