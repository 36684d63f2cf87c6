-- What the two edges make of counters and conditions.
pub mod Edges
