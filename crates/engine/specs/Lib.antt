-- What the engine's calls and their parts say.
pub mod Said
