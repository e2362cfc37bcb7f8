-- What routing asks of a tree.
pub mod Routing
