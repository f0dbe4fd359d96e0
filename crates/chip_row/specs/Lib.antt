pub mod Chips
pub mod Rows
pub mod RowLaws
pub mod Asks
