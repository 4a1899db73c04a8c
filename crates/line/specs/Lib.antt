pub mod Lines
pub mod Conditions
