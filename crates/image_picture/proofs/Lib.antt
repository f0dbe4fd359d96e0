pub mod Inside
pub mod Told
pub mod Speaking
pub mod Rows
pub mod Turns
