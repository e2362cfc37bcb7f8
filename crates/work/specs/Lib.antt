-- What a call does with its rows, and what it leaves of the lent slices.
pub mod Worked
pub mod Whole
