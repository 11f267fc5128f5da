pub mod Barred
pub mod Clause
pub mod Constraints
pub mod Events
pub mod Inference
pub mod Inferences
pub mod Left
pub mod Subscriptions
