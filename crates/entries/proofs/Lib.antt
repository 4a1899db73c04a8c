pub mod Deciding
pub mod Doubles
pub mod Readers
mod Accepting
mod Answering
mod BufferRows
pub mod Closeness
mod Running
