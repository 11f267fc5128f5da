pub mod Ends
pub mod Explained
pub mod Opposite
pub mod Pinned
pub mod Refuted
