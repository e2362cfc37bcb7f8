-- Laws of the numbered slots and blocks in the lent slices.
pub mod Tables
pub mod Numbered
pub mod Trees
pub mod Cut
pub mod Writes
pub mod Changes
pub mod Pieces
pub mod Tidied
