pub mod Along
mod Passing
mod Walk
pub mod Closeness
mod Answering
