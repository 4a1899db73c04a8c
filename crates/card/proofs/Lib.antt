mod Outcome
pub mod Behind
pub mod Slip
