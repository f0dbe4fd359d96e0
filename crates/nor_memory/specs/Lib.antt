pub mod Record
pub mod RecordLaws
pub mod Ways
pub mod Moments
pub mod Picks
