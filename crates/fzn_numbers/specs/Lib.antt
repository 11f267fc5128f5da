pub mod Ascending
pub mod Bits
pub mod IntSet
