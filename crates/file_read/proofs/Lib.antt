pub mod Bytes
pub mod Names
pub mod Pieces
pub mod Going
pub mod Stats
