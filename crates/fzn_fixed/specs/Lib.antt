pub mod Demand
pub mod Denial
pub mod Image
pub mod Parts
pub mod Passes
