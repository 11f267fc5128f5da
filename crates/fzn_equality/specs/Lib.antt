pub mod ElementPasses
pub mod Equality
pub mod ExtremumPasses
pub mod Shared
