pub mod Laws
pub mod Drop
mod Products
