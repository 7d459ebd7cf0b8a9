pub mod Joined
pub mod Meant
pub mod Networks
pub mod Opened
pub mod Parts
pub mod RoundTrip
