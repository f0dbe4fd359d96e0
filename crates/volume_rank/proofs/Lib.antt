pub mod Tops
pub mod Lists
pub mod Orders
