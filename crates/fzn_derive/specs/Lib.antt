pub mod Apart
pub mod Derived
pub mod Merged
pub mod Parity
pub mod Room
pub mod Summed
