pub mod Plain
pub mod Parting
pub mod Numbers
pub mod Putting
pub mod Reading
pub mod Spelling
pub mod Breaks
