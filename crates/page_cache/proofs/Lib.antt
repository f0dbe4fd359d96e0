pub mod Places
pub mod Findable
pub mod Loops
pub mod Copies
pub mod Counts
pub mod Held
pub mod Keeping
