pub mod Hexed
pub mod Parted
pub mod Orders
pub mod Refusing
pub mod Keeping
pub mod Working
pub mod Rivals
mod Written
