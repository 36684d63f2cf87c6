-- The laws that carry a cycle over rows to the meaning.
pub mod Rows
pub mod Times
pub mod Firable
pub mod Whole
