pub mod Copies
pub mod Built
pub mod Edits
pub mod PageSteps
pub mod Renewals
pub mod EditLaws
pub mod Restated
