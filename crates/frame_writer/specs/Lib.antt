pub mod Compact
pub mod Tree
pub mod Writing
