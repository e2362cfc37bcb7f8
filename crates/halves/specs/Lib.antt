-- Laws of the seeds and of the groups.
pub mod Seeds
pub mod Halves
