-- N nodes and M + 1 entries suffice at every moment.
pub mod Moments
pub mod Rebuilds
pub mod Calls
