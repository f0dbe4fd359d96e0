pub mod Ends
pub mod Seen
pub mod Stages
pub mod Turns
pub mod Went
