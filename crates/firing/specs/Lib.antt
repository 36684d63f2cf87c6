-- What the fired set is, by the rows of a net, and what one round decides.
pub mod Fired
