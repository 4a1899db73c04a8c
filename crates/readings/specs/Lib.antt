pub mod Readings
pub mod Slip
pub mod OnePath
