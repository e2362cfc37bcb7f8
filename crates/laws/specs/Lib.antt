-- The invariant over the rules: every step keeps it, a tree passes the check where it holds, and N nodes suffice.
pub mod Moves
pub mod Running
pub mod Summaries
pub mod Shapes
pub mod Invariant
pub mod Splitting
pub mod Inserting
pub mod Rebuilding
pub mod Room
pub mod Check
pub mod Refitting
pub mod Resting
pub mod ForCode
