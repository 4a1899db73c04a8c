pub mod Card
pub mod Slip
pub mod Conditions
pub mod Laws
