pub mod Back
pub mod Inversions
pub mod Makes
