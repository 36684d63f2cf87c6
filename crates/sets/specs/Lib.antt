-- What the members of a set are, one after the other.
pub mod Walk
