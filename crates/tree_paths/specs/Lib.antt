pub mod Tree
pub mod Naming
