pub mod Chains
pub mod RepeaterLaws
pub mod SpoolLaws
