pub mod Rows
pub mod Places
pub mod Ranged
