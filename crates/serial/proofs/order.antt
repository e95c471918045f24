pub mod SerialTheorem
pub mod Promised
