pub mod Passes
pub mod Propagator
