pub mod Among
pub mod Runs
pub mod Settling
pub mod Turns
pub mod Outcomes
pub mod Running
pub mod Taken
