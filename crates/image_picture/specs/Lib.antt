pub mod Signs
pub mod Pieces
pub mod Picture
pub mod Drawing
