pub mod FirstPiece
pub mod Sides
