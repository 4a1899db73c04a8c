pub mod Largest
pub mod Laws
mod Entries
mod Rule
