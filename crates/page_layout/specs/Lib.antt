pub mod Layout
pub mod Ids
