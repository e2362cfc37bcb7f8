-- A set of numbers below 256.
pub mod Sets
