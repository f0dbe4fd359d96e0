pub mod Runs
pub mod Chain
pub mod OneCall
pub mod Rooms
pub mod Corner
pub mod IndexRoom
