pub mod Puts
pub mod Told
