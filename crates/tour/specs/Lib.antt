-- Conditions 4 and 6 by one walk from the root: what code computes, and that it is document 01's.
pub mod Walking
pub mod Sums
-- a walk that ends meets each node once, and goes through every list
pub mod Steps
pub mod Ending
pub mod Touring
pub mod Levels
-- condition 4, both ways
pub mod Whole
pub mod Through
-- condition 6, by counts at each depth
pub mod Even
pub mod Shallow
-- what the walk keeps, and that it tells both
pub mod Kept
pub mod Back
pub mod Told
-- what code leans on
pub mod Loops
