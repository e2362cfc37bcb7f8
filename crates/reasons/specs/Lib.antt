-- Why a line of the listing's input is bad.
pub mod Reasons
pub mod Meant
pub mod Readings
