-- The lines of the listing as code reads and writes them.
pub mod Places
pub mod Told
pub mod Numbers
pub mod Fields
pub mod Words
pub mod Written
pub mod Firsts
pub mod Rows
pub mod Enough
