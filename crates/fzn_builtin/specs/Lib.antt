pub mod Kinds
pub mod Members
pub mod Passes
