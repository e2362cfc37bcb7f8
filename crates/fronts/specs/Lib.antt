-- The needed fronts of the lent slices, and what an accepted call leaves there.
pub mod Fronts
pub mod Whole
