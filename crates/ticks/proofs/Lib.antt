pub mod Laws
mod Bits
mod Values
