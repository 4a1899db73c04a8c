pub mod Along
pub mod Buffers
pub mod Counting
pub mod Laws
pub mod Onward
pub mod Padding
pub mod Refusals
pub mod Reading
