-- The part that lookup hands back, as where it starts and how long it is.
pub mod Parts
