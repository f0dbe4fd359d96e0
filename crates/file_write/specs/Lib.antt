pub mod Creates
pub mod Beside
pub mod Appends
pub mod Batches
pub mod Overwrites
pub mod Patches
pub mod Relinkings
pub mod Readyings
