pub mod Texts
pub mod Tidiness
