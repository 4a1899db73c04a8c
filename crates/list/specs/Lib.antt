pub mod Lists
pub mod Measures
pub mod Conditions
pub mod Counted
pub mod Laws
