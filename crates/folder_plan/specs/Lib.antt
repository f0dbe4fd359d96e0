pub mod Tables
pub mod Refusals
pub mod Putting
pub mod Rising
