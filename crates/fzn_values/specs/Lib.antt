pub mod AllDifferent
pub mod Circuit
pub mod Cumulative
pub mod Entries
pub mod Inverse
pub mod LoadProfile
pub mod Table
pub mod Term
