-- Floats: the operators of the rules, values worked out from a float, and counts of rows as floats.
pub mod Operators
pub mod Values
pub mod Whole
pub mod Order
pub mod Zero
pub mod Sums
pub mod Range
pub mod Counts
pub mod CountLaws
