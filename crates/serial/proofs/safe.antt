pub mod Stamps
pub mod Answered
pub mod Prefix
pub mod Reply
pub mod Readers
pub mod Commits
