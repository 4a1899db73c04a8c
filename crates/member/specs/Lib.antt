pub mod Constants
pub mod Member
pub mod Facts
pub mod Checking
