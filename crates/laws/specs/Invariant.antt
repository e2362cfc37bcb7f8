-- The invariant: local, with a rank for each node.
pub mod Links
pub mod Height
pub mod Weights
pub mod Weigh
pub mod Sound
pub mod Beneath
pub mod Collected
pub mod Same
pub mod Owned
