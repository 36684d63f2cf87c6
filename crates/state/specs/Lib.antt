-- What the arrays of a state hold, what the records of an image spell, what is stored, and when a record does not fit.
pub mod Records
pub mod Holds
pub mod Stored
pub mod Fit
