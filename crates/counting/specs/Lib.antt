-- Facts of lists, counts and sums, over the rules' small functions on lists and `renumber`.
pub mod Count
pub mod Sums
pub mod Flags
pub mod Lists
pub mod All
pub mod Only
pub mod Totals
pub mod Tests
pub mod Places
