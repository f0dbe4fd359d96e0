pub mod Sorts
pub mod Summed
pub mod Greatest
pub mod Filtered
pub mod Wanted
