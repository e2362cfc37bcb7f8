-- The listing of an input that comes in chunks.
pub mod Finished
pub mod Chunks
pub mod Whole
