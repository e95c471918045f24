pub mod NextCommit
pub mod Opened
