-- What the exported calls hand to C.
pub mod Exported
