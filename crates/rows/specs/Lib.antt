-- What the rows of a table hold, and what they hold after a part of its records.
pub mod Extent
pub mod Rows
pub mod Filed
