pub mod Speaking
pub mod Walking
pub mod Found
pub mod Placing
pub mod Pieces
pub mod Files
pub mod Sound
