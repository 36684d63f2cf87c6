-- The laws of sets in one word, and of rows of them.
pub mod Bits
pub mod Walk
pub mod Some
pub mod Taking
pub mod Rows
