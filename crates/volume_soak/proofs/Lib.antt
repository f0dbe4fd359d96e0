pub mod Turning
pub mod ManyTurns
pub mod Counting
pub mod Walking
