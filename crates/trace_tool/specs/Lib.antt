pub mod Words
pub mod Planned
pub mod Endings
pub mod Copies
pub mod Rehearsed
pub mod Traces
