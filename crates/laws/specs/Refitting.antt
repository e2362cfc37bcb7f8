-- A refit keeps the invariant.
pub mod Names
pub mod Walk
pub mod Round
pub mod Refitted
