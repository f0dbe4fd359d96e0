pub mod Finding
pub mod Ids
pub mod Putting
pub mod Lowest
pub mod Pieces
pub mod Stepping
pub mod Among
