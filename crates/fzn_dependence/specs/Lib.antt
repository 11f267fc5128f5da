pub mod Decided
pub mod Dependence
