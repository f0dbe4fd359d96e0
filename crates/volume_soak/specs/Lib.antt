pub mod Draws
pub mod Turns
pub mod Asks
pub mod Doing
