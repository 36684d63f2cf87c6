-- The laws of what firing moves and of the marking after it.
pub mod Walk
pub mod Chain
pub mod Giving
pub mod ByTable
pub mod Taking
pub mod Tallying
pub mod Tending
pub mod Settling
