pub mod Spelling
pub mod Asked
pub mod Fields
pub mod Values
pub mod Sets
pub mod Words
pub mod Writes
