-- The laws of the closed priority.
pub mod Chains
pub mod Walk
pub mod Part
pub mod Priority
