pub mod Texts
pub mod Saying
pub mod Lists
pub mod Parts
pub mod Putting
pub mod Pieces
pub mod Extracting
