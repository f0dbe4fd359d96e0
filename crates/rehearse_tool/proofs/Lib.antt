pub mod Coming
pub mod Rehearsed
pub mod Planned
