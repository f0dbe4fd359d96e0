pub mod Ranking
pub mod Telling
pub mod Counting
pub mod Detected
pub mod Fronts
pub mod Enough
pub mod Metas
