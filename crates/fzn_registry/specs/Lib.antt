pub mod Registry
pub mod Spelling
