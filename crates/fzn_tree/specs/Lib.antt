pub mod Grammar
pub mod Piece
