-- The laws of the cycles of a call.
pub mod Levelled
pub mod Turns
pub mod Laying
pub mod Again
