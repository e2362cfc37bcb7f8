-- Rows in a slice.
pub mod Rows
