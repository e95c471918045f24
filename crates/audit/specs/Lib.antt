pub mod Course
pub mod Replay
pub mod Same
pub mod Sorting
pub mod Orders
