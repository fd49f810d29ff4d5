pub mod Chain
pub mod Following
pub mod Piece
pub mod Steps
pub mod Work
