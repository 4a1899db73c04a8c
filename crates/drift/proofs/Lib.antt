pub mod Beside
pub mod Factors
pub mod Growth
pub mod Runs
pub mod Kept
pub mod Fractions
pub mod TwoRuns
pub mod GaugeDrift
