-- What the invariant gives to code over lent slices: the numbers of a list are there.
pub mod Sure
pub mod Framed
pub mod Standing
