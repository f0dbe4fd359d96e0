pub mod Bits
pub mod Parts
pub mod NewHeader
pub mod Stays
pub mod IdBits
