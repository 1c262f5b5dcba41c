pub mod Cards
pub mod Sessions
