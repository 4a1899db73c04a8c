pub mod Ticks
pub mod Doubles
pub mod Decoder
