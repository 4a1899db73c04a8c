pub mod Run
pub mod Conditions
