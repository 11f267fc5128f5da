pub mod Answer
pub mod Printer
pub mod Showable
pub mod Shown
