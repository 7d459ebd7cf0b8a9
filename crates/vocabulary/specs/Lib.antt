pub mod Made
pub mod Marks
pub mod Places
pub mod Same
pub mod Told
pub mod Timers
