pub mod Cents
