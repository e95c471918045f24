pub mod Sides
pub mod Orderly
pub mod Twins
pub mod Edges
pub mod Questions
pub mod Replies
pub mod Pivots
pub mod Writers
pub mod Doomed
pub mod Turned
pub mod Moved
pub mod Follows
pub mod Begun
pub mod Histories
pub mod Steps
pub mod Classes
pub mod Matter
mod Beginnings
