-- The rebuild: what its parts ask of the tree, and what they leave.
pub mod Counted
pub mod Merges
pub mod Rebuilding
