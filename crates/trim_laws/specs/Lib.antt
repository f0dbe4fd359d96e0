pub mod Trim
pub mod Steps
pub mod Wear
pub mod Upkeep
