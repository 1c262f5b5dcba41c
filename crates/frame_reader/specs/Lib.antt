pub mod Members
pub mod Walks
pub mod Frame
pub mod Fields
pub mod Payload
pub mod Parts
pub mod Values
pub mod Reading
