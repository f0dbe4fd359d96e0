pub mod ByRows
pub mod Counted
pub mod Counts
pub mod Free
pub mod Had
pub mod Ids
pub mod Naming
pub mod Summed
