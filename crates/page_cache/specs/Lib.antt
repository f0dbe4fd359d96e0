pub mod Counting
pub mod Frames
pub mod Kept
pub mod Same
