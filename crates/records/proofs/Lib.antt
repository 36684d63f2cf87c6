-- The laws of a record's columns.
pub mod Columns
pub mod Limits
