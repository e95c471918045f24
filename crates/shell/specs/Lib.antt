pub mod Shells
pub mod Asked
pub mod Turns
pub mod Answering
