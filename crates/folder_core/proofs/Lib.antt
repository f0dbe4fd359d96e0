pub mod Named
pub mod MemFiles
pub mod Putting
