-- Descent, the push along the path, absorb or begin: a row in keeps the invariant.
pub mod Descent
pub mod Climb
pub mod Listed
pub mod Begun
pub mod Fed
pub mod Grown
pub mod First
pub mod Items
