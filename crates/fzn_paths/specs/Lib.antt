pub mod Identity
pub mod Late
