pub mod Asking
pub mod Checkpoints
