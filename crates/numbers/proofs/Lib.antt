mod Bytes
mod FirstDoubles
pub mod Doubles
