pub mod Lines
pub mod Promises
pub mod Places
pub mod Laws
pub mod Verdicts
pub mod Texts
