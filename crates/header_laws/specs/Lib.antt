pub mod Ids
pub mod Heads
pub mod Names
pub mod Sums
pub mod Room
