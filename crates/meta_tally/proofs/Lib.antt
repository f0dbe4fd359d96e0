pub mod Finds
pub mod Entries
pub mod Seeing
pub mod Marks
pub mod Alike
pub mod Tallies
pub mod Counting
