pub mod Outcomes
pub mod Quantities
pub mod Refusals
pub mod Limits
pub mod Sizes
pub mod Readable
pub mod Along
