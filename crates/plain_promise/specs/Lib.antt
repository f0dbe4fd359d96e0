pub mod Seen
pub mod Walks
