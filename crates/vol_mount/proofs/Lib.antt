pub mod Inside
pub mod Units
pub mod Blanks
pub mod Empty
mod Counting
pub mod Listed
pub mod Same
mod Stopping
