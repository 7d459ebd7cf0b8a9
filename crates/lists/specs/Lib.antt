pub mod Bars
pub mod Equivalents
pub mod Held
pub mod Laws
pub mod Lists
