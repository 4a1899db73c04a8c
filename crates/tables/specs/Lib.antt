pub mod Tables
pub mod Exact
pub mod Conditions
