pub mod Sums
pub mod Alternation
pub mod Allowed
pub mod Turns
pub mod Rounding
pub mod Slow
pub mod Series
