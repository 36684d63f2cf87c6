-- What a refusal says, in the page's numbers.
pub mod Numbered
