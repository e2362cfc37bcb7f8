-- N nodes and M + 1 entries suffice.
pub mod Nodes
pub mod Kept
