pub mod Making
pub mod Composing
