-- What the turned rows hold.
pub mod Arcs
