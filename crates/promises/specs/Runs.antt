-- From a tree that passes the check through any calls; from creation among them.
pub mod Calls
pub mod Lent
pub mod Runs
pub mod OneCall
pub mod Public
pub mod Created
pub mod Clears
