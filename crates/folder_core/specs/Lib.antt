pub mod Files
pub mod Puts
pub mod Mem
