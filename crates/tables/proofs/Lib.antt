pub mod Rows
mod Order
mod Readings
pub mod Weights
