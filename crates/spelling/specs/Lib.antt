pub mod Digits
pub mod Failed
pub mod Octets
pub mod Sized
pub mod Words
