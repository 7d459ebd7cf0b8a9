pub mod Inversion
pub mod Keeping
pub mod Networks
