-- The laws of the stages.
pub mod Stages
pub mod Answers
pub mod Ranks
