-- One row, or one summary, into the tree: what is asked of the tree, and what each part leaves for the next.
pub mod Places
pub mod Room
