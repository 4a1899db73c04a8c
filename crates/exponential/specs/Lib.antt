pub mod Factor
pub mod Series
pub mod Claims
