pub mod Hosts
pub mod Conditions
