pub mod Words
pub mod Plan
pub mod Endings
pub mod Among
pub mod Does
pub mod Steps
