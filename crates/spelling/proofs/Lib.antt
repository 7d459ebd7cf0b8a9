pub mod Spells
pub mod Cutting
