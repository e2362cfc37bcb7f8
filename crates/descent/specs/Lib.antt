-- The way of an item into the tree: what is asked of it, and the laws of its loops.
pub mod Forms
pub mod Nearest
pub mod Searched
pub mod Paths
