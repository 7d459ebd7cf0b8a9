pub mod Additions
pub mod Equating
pub mod Fresh
pub mod Members
pub mod Removals
