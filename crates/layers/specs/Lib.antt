pub mod Below
pub mod Limits
pub mod Repeater
pub mod Spool
