-- The public calls and the rules' outcomes.
pub mod Outcomes
pub mod Accepted
pub mod Looks
pub mod Seen
