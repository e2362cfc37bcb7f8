-- A run over the lines of a listing's input.
pub mod Runs
pub mod Lines
pub mod Heads
pub mod Rows
