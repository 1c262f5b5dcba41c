pub mod Ascends
pub mod Edits
pub mod Gaps
pub mod Laws
pub mod Moves
pub mod Openings
pub mod Sizes
pub mod Tables
