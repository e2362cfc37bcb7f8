-- The head, its limits, the sizes of the lent buffers, and the refusals.
pub mod Heads
pub mod Counting
pub mod Limits
pub mod Sizes
pub mod Refusals
