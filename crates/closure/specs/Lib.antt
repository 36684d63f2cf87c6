-- What closing the priorities means.
pub mod Closure
