-- What one cycle over rows comes to.
pub mod Turn
