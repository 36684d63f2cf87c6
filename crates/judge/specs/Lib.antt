-- What the stages of a table come to.
pub mod Judged
