pub mod Core
pub mod Kept
pub mod Listing
pub mod Marks
pub mod Planned
