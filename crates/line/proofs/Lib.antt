pub mod Laws
pub mod LineByLine
pub mod Behind
pub mod BlankField
pub mod Amounts
mod Fields
