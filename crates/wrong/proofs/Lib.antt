-- Wrong engines: what they answer or leave on a named input fails the promises.
pub mod Checks
pub mod Runs
pub mod Days
