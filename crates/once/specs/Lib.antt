-- Each entry once, by the set of those that the leaf lists have named.
pub mod Once
