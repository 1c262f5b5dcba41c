pub mod Members
pub mod Lefts
pub mod Walks
pub mod Slots
pub mod Kinds
pub mod Call
