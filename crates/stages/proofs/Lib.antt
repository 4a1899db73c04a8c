pub mod Beginning
pub mod Leaving
pub mod Clocks
pub mod Passing
pub mod Slipping
pub mod Seating
