-- The laws of levels.
pub mod Sides
