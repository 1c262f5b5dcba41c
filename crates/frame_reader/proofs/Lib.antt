pub mod Fronts
pub mod Onlys
pub mod Forms
pub mod Told
pub mod Same
