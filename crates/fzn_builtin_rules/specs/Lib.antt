pub mod Borrowed
pub mod Choices
pub mod Ends
pub mod Form
pub mod Linear
pub mod Numbered
pub mod Product
pub mod Rows
