pub mod Pushing
pub mod Ranges
pub mod Units
pub mod MemoryLemmas
pub mod ChipCalls
