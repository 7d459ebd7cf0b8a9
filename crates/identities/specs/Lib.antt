pub mod Identities
pub mod Marks
