-- Whom the rows name.
pub mod Named
