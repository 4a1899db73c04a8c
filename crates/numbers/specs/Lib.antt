pub mod Numbers
pub mod ReadDoubles
pub mod Conditions
pub mod Laws
