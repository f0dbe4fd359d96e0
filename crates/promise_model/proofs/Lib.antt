pub mod Walking
pub mod Waits
pub mod Keeping
pub mod Telling
