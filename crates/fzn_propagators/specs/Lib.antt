pub mod Either
pub mod Propagators
