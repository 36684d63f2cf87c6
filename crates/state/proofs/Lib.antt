-- Laws of the image's records: how they are read, searched and written, and what they say of an accepted table.
pub mod Read
pub mod Firsts
pub mod Images
pub mod Write
pub mod Orders
pub mod Put
pub mod Begun
pub mod Fitted
pub mod Past
