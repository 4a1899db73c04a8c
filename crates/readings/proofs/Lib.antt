pub mod Marked
pub mod Slip
mod Inserted
pub mod OnePath
