-- Demand 3 over the rules: `Demand` states it, the rest proves it.
pub mod Demand
pub mod Locality
pub mod Ownership
pub mod Room
pub mod Runs
