pub mod Linewise
pub mod Naming
pub mod Tables
pub mod Passing
pub mod Over
pub mod Checking
pub mod Values
pub mod Printing
