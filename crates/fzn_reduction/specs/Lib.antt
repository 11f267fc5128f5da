pub mod Deletion
pub mod Forgetting
pub mod Written
