pub mod Behind
pub mod Trimmed
pub mod Written
