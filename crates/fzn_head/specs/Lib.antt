pub mod Extended
pub mod Extender
pub mod Head
pub mod Opening
pub mod Outcome
