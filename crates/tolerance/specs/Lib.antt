pub mod Formulas
pub mod Method
pub mod Demand
