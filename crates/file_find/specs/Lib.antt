pub mod Judging
pub mod Ids
pub mod Marks
pub mod Listing
