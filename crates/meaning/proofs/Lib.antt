-- The laws of the meaning.
-- finite questions and bytes
pub mod Bool
pub mod Below
pub mod Bytes
pub mod Image
-- the answer table, in both directions
pub mod Decide
pub mod Walk
pub mod Reflect
pub mod Bits
pub mod Shows
pub mod Same
pub mod Faults
pub mod Closure
pub mod Rows
pub mod Tables
pub mod Sound
pub mod Spelt
pub mod Wrong
pub mod Answers
-- one cycle over an accepted table
pub mod Well
pub mod Enabled
pub mod Falling
pub mod Rising
pub mod Accepted
pub mod Fired
pub mod Pays
pub mod Sequence
pub mod Fits
pub mod Near
pub mod Source
-- runs and outcomes
pub mod Run
pub mod Carried
pub mod Words
pub mod Outcomes
pub mod Demand3
pub mod Turns
pub mod Demands
pub mod Kept
pub mod Finished
pub mod History
