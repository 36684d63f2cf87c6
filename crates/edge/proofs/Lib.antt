-- The laws of the walks of the two edges.
pub mod Falling
pub mod Asking
