-- The refold: the walk over the nodes, and the fold of a list in scratch.
pub mod Walk
pub mod Links
pub mod Folds
pub mod Refolding
