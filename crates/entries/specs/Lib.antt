pub mod Answers
pub mod RunAges
pub mod Conditions
pub mod Promise
