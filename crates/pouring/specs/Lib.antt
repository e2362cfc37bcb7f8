-- The laws of the pouring and of the flags of used entries.
pub mod Pouring
pub mod Used
