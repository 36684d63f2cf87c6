-- The worked nets.
pub mod Bench
