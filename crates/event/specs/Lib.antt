pub mod Keys
pub mod Lawful
pub mod Search
pub mod Names
