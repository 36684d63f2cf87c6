-- The meaning of request (i) of document 02, and what its calls promise.
pub mod Day
pub mod Spoken
pub mod Promised
pub mod Told
pub mod Parts
