pub mod Laid
pub mod Values
pub mod Depths
pub mod Texts
pub mod Frames
