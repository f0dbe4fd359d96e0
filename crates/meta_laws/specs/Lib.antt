pub mod Other
