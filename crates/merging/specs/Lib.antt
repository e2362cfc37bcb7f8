-- The merges of a rebuild in the slices, and the laws of the loops that merge and drop.
pub mod Merging
pub mod Numbering
pub mod Moving
pub mod Pruning
