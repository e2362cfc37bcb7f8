-- Rows into a tree between calls.
pub mod Resting
pub mod Batch
