mod Amounts
mod Numbers
mod Segments
mod Parts
mod Outcome
