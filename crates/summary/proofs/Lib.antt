-- The laws of request (i).
pub mod Listed
pub mod Sums
pub mod Whole
pub mod Refusals
pub mod Reading
pub mod Adding
pub mod Moving
pub mod Counting
pub mod Outcomes
pub mod Reports
pub mod Runs
pub mod Day
