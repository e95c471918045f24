pub mod Counting
pub mod Json
pub mod JsonTelling
pub mod JsonTold
pub mod Lines
pub mod Telling
