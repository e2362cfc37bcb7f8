-- The refusals that code gives are the rules'.
pub mod Lending
pub mod Each
pub mod Granted
