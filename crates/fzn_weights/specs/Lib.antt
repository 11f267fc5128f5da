pub mod Amount
pub mod Inverses
pub mod Limits
pub mod Moves
pub mod Multiples
pub mod Prices
pub mod Tables
pub mod Weights
