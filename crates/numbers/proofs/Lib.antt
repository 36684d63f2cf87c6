-- How bytes spell a number, and how a number is stored byte by byte.
pub mod Spelt
pub mod Stored
