pub mod Answering
pub mod Moving
pub mod Stopping
pub mod AtRest
pub mod Quieting
