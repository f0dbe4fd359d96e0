pub mod Drops
pub mod Programs
pub mod Removals
pub mod Truncates
