pub mod Bounded
pub mod Known
pub mod Line
pub mod Said
