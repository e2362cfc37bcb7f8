-- The refit: the laws of its rounds.
pub mod Hollow
pub mod Rounds
pub mod Refitting
