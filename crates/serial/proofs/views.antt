pub mod Safe
pub mod Sound
pub mod Elsewhere
pub mod Sourced
