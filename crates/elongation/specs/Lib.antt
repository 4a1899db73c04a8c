pub mod Sheet
pub mod Close
pub mod Promise
pub mod Conditions
