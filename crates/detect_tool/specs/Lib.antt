pub mod Words
pub mod Lent
pub mod Refusals
pub mod Lines
pub mod Ranked
pub mod Detecting
pub mod Fronts
