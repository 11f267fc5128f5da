pub mod First
pub mod Input
pub mod Lines
pub mod Opening
pub mod Reader
pub mod Script
pub mod Told
