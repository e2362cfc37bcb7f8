-- A tree at rest between calls: kept by them, stored in its slots, served by head and buffers.
pub mod Merged
pub mod Threshold
pub mod Rests
pub mod Fitting
pub mod Serving
