-- The tree check says what the invariant says, both ways.
pub mod Beneath
pub mod Levels
pub mod Passing
pub mod Ranks
pub mod Read
pub mod Accept
pub mod Taken
pub mod Empty
pub mod Both
