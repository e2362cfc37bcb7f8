-- Channel rules: sums and lists over the first channels, and their laws.
pub mod Channels
pub mod Laws
