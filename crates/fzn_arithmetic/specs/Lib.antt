pub mod Excluded
pub mod Passes
