-- What the functions on one record promise.
pub mod Record
pub mod Kinds
