-- A split anywhere, and its way up to a new root, keep the invariant.
pub mod Groups
pub mod Torn
pub mod Tied
pub mod Crown
pub mod Extended
pub mod Nodes
pub mod Weighed
pub mod Split
pub mod Up
