-- Merges, drops, reinsertion and refold keep the invariant, and a rebuild merges at least once.
pub mod Merge
pub mod Pairs
pub mod Cousins
pub mod Drop
pub mod Refold
pub mod Reinsert
pub mod Walk
pub mod Rebuilt
pub mod Order
pub mod Restored
