-- What the listing prints, field by field and line by line.
pub mod Lines
pub mod Entries
