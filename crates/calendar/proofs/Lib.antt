pub mod Sums
pub mod Months
pub mod Table
pub mod Years
pub mod Seconds
pub mod Texts
pub mod Denoted
