pub mod Formatted
pub mod Mounts
pub mod Needs
pub mod Reads
pub mod Readers
