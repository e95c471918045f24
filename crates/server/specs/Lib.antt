pub mod Calls
pub mod Doings
pub mod Holds
pub mod Naps
