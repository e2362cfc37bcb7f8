-- Summaries: their form, push and merge, and what those keep.
pub mod Summaries
pub mod Steps
pub mod Weights
pub mod Agree
pub mod Shape
pub mod Readings
