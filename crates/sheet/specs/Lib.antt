pub mod Sheet
pub mod Sums
