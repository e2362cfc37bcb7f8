-- What one row alters.
pub mod Path
pub mod Entry
pub mod Nodes
pub mod Row
