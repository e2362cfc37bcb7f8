-- Weights added up in whole numbers: what code computes, and that it is condition 7.
pub mod Adding
pub mod Weighed
pub mod Weighable
