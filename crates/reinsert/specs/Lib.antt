-- Reinsertion: summaries in scratch, nodes that wait on a stack, and what is asked of a tree before each step.
pub mod Waiting
pub mod Collect
pub mod Replace
pub mod Whole
pub mod Thinned
