pub mod Refusals
pub mod Early
pub mod Among
pub mod Speaking
pub mod Reading
pub mod Telling
pub mod Mounted
pub mod Begun
