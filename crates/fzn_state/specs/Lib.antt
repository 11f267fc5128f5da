pub mod Antecedents
pub mod Certified
pub mod Changes
pub mod Learned
pub mod Resolved
pub mod Search
pub mod State
pub mod Volume
