pub mod Declarations
pub mod Ending
pub mod Itemized
pub mod Listed
pub mod Marks
pub mod Pieces
pub mod Statements
