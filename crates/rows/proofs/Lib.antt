-- Laws that the readers of the rows share.
pub mod Empty
pub mod Shown
pub mod Few
pub mod Arcs
pub mod Times
