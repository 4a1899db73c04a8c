pub mod Polynomial
pub mod Laws
pub mod Certificate
pub mod Distances
pub mod Floors
pub mod Quotients
pub mod Slopes
