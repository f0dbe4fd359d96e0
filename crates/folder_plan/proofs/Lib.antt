pub mod Keeping
pub mod Naming
pub mod Rising
pub mod Summing
pub mod Deciding
pub mod Tabling
pub mod Filling
pub mod Answering
