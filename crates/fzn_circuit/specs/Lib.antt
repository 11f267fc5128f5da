pub mod Circuits
pub mod Closed
pub mod Passes
pub mod Propagator
