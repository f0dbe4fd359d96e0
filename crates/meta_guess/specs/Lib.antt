pub mod Guesses
