pub mod Earliest
pub mod Later
pub mod Through
pub mod Tracked
pub mod Undo
pub mod Walks
pub mod World
