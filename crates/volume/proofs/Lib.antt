pub mod Rows
pub mod Staying
pub mod Magics
pub mod Acting
pub mod Clearing
pub mod Finishing
pub mod Continuing
pub mod WriteCalls
pub mod Calling
pub mod RunSettling
pub mod Scrubbings
pub mod Cleanings
pub mod MapCalls
mod LookedAfter
mod KnownMaps
