pub mod Denied
pub mod Intervals
pub mod Narrow
pub mod Values
