-- What firing moves, and the marking after it.
pub mod Moves
pub mod Sweep
pub mod Settle
