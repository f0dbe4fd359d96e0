pub mod Sums
pub mod Greatest
pub mod Filtered
pub mod Walks
pub mod Sweeping
