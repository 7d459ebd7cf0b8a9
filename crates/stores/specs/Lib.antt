pub mod Laws
pub mod Numbers
pub mod Slots
pub mod Steps
