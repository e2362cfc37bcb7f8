-- Whose each row is: the account beside the tree, and its keeping.
pub mod Made
pub mod Moved
pub mod Carries
pub mod Merged
pub mod Rows
pub mod RowsMade
pub mod Account
pub mod Poured
pub mod PouredMade
pub mod Refitted
