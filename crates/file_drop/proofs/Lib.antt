pub mod Programs
pub mod Killing
pub mod Seeing
pub mod Marking
pub mod Passing
pub mod Truncates
