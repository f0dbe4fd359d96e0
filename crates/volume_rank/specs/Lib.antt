pub mod Ranges
pub mod Tops
pub mod Finds
pub mod Order
