pub mod Tests
pub mod Downward
pub mod Spelled
pub mod Found
pub mod Apart
