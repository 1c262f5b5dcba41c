pub mod Pieces
pub mod Split
