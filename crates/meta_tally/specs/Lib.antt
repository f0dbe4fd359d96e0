pub mod Heads
pub mod Names
pub mod Wholes
pub mod Counted
