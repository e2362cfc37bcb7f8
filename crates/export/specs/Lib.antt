-- The public calls in numbers that C and Rust can pass.
pub mod Given
pub mod Seen
pub mod Chained
