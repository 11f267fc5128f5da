pub mod Standard
pub mod Tried
