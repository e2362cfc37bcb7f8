-- The pairs of a rebuild in scratch, and the laws of the loops that find and sort them.
pub mod Sorting
pub mod Partners
pub mod Groups
pub mod Rooms
