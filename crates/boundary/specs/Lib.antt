-- Heads and answers in numbers that C and Rust can pass.
pub mod Numbers
