pub mod Arguments
pub mod Constraints
pub mod Faults
pub mod Limits
pub mod Models
pub mod Typed
