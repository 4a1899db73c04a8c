pub mod Columns
pub mod Conditions
pub mod Text
