pub mod Chains
pub mod Passes
pub mod Propagator
pub mod Supports
pub mod Words
