-- The laws of the sets of the transitions' places, and of their rivals.
pub mod Putting
pub mod Turning
pub mod Meeting
pub mod Gaining
