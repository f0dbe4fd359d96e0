pub mod Trims
pub mod Pages
pub mod Empty
pub mod NextCounts
pub mod Wears
