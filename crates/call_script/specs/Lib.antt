pub mod Numerals
pub mod Texts
pub mod Lines
pub mod Split
pub mod Replies
pub mod Pieces
pub mod Printing
