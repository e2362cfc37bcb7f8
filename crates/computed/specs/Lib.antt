-- What the rules give, computed: histories with the Rust's answers, whole public calls on small lent slices, and the tree check on small trees.
pub mod Taught
pub mod Words
pub mod Damaged
