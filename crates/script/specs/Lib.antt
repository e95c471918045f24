pub mod Commands
pub mod Printing
pub mod Scripts
pub mod Telling
pub mod Transcribing
