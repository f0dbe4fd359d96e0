pub mod Heads
pub mod Noting
pub mod Neat
