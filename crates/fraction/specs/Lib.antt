pub mod Fraction
pub mod Equality
