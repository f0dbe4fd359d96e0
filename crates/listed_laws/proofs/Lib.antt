mod Lengths
pub mod Listings
