pub mod Doubled
pub mod Notes
