pub mod Bytes
pub mod Kept
pub mod Kinds
pub mod Lexemes
pub mod Positions
pub mod Steps
pub mod Strings
pub mod Tokens
