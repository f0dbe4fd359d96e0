pub mod Ages
pub mod Scrubs
pub mod Victims
