-- Laws of the split and of its way up.
pub mod Gather
pub mod Parts
pub mod Crown
pub mod Rising
pub mod Splitting
pub mod Up
