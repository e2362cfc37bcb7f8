-- What a rebuild keeps in scratch.
pub mod Stored
pub mod Flags
pub mod Slots
