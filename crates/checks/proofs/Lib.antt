pub mod Ranged
pub mod Rows
pub mod Parts
pub mod Holding
pub mod Cascade
