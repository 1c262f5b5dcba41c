pub mod Contents
pub mod Gaps
pub mod Places
pub mod Stretches
