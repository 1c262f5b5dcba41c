pub mod Laws
pub mod Members
pub mod Places
pub mod Ring
