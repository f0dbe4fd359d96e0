pub mod Seen
pub mod Moments
