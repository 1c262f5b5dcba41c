pub mod Grammar
pub mod Beginnings
pub mod Machine
pub mod Scanning
pub mod Verdict
pub mod Parts
pub mod Spots
