-- What becomes of a record, and what the pass over all of them leaves.
pub mod Scan
