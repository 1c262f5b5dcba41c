pub mod Fronts
pub mod Looks
pub mod Openings
pub mod Fours
pub mod Scalars
