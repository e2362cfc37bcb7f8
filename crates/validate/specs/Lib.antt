-- The tree check: what code computes, that it is document 01's check, and what a tree that passes gives to code.
pub mod Examined
pub mod Granted
pub mod Passing
