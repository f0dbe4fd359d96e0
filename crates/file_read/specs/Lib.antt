pub mod Whole
pub mod Spans
pub mod Missing
pub mod Stats
