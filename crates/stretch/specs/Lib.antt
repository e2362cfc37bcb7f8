-- Laws of one slot and one block.
pub mod Stretches
pub mod Slots
pub mod Pushes
pub mod Blocks
pub mod Tidy
