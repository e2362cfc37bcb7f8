-- The six distances and the cost of a merge.
pub mod Distances
