pub mod Core
pub mod Kept
pub mod Polling
pub mod Unspoilt
