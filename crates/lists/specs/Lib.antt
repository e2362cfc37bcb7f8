-- What loops over nodes, entries and lists come to, and what holds of slices whose lists fit.
pub mod Loops
pub mod Lent
