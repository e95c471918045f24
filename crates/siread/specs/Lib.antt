pub mod Adding
pub mod Bounds
pub mod Extents
pub mod Reads
