pub mod Encoding
pub mod Verdicts
