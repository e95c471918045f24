pub mod Legality
pub mod Moves
pub mod Prefixes
