pub mod Values
pub mod Widths
pub mod Plain
