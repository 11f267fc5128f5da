pub mod ByWeight
pub mod Levels
