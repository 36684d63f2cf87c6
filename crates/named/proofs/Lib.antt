-- The laws of the walks, and what they say of a table.
pub mod Walks
pub mod Says
