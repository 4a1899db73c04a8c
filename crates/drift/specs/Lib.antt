pub mod Drift
pub mod Returned
