-- Outputs: the front written, the rest as lent.
pub mod Spread
pub mod Written
