pub mod Fronts
pub mod Cuts
pub mod Spares
pub mod Standing
pub mod Counting
